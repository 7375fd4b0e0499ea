use Rattle.std.proofs.Common.{◌<◌, ◌≤◌, ℕ, get_or}
use Rattle.fb_wanted.proofs.peaks.greatest_of.Given as goal

-- the greatest of those seen
abbrev pub invariant-loop-i : goal.invariant-loop-i
invariant-loop-i l = ((j : ℕ) → l.from ≤ j → j < l.i → get_or l.numbers j 0 ≤ l.greatest)
    × ((most : ℕ) → ((j : ℕ) → l.from ≤ j → j < l.end → get_or l.numbers j 0 ≤ most) → l.greatest ≤ most)
