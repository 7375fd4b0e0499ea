use Rattle.fb_detour.proofs.Words.{get_or, if◌then◌else◌, length, nat_le, ℕ, ◌*◌, ◌+◌, ◌<◌, ◌≡◌, ◌≤◌}
use Rattle.fb_detour.proofs.parts.add_last.Given as goal

abbrev pub invariant-loop-k : goal.invariant-loop-k
invariant-loop-k l = (length l.parts ≡ 32)
    × ((j : ℕ) → j < l.k → get_or l.parts j 0 ≡ get_or l.initial.parts j 0 + (if nat_le (l.begin + j * l.step) l.last then l.worth else 0))
    × ((j : ℕ) → l.k ≤ j → get_or l.parts j 0 ≡ get_or l.initial.parts j 0)
