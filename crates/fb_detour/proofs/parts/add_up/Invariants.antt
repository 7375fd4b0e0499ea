use Rattle.fb_detour.proofs.Words.{get_or, length, ℕ, ◌+◌, ◌<◌, ◌≡◌, ◌≤◌, sum_of_first}
use Rattle.fb_detour.proofs.parts.add_up.Given as goal

abbrev pub invariant-loop-k : goal.invariant-loop-k
invariant-loop-k l = (length l.intervals ≡ length l.initial.intervals)
    × ((j : ℕ) → j < l.k → get_or l.intervals j 0 ≡ sum_of_first (j + 1) l.initial.intervals)
    × ((j : ℕ) → l.k ≤ j → get_or l.intervals j 0 ≡ get_or l.initial.intervals j 0)
