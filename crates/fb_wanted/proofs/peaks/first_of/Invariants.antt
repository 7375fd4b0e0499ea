use Rattle.std.proofs.Common.{◌≡◌, ◌≤◌, ◌<◌, ℕ, get_or}
use Rattle.fb_wanted.proofs.peaks.first_of.Given as goal

-- those seen are 0
abbrev pub invariant-loop-i : goal.invariant-loop-i
invariant-loop-i l = (j : ℕ) → l.from ≤ j → j < l.i → get_or l.numbers j 0 ≡ 0
