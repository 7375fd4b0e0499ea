use Rattle.fb_bgwrite.proofs.Words.{◌+◌, ◌<◌, ◌≤◌, ℕ, get_or}
use Rattle.fb_bgwrite.proofs.shortest.least_of.Given as goal

-- the least of those seen
abbrev pub invariant-loop-bound : goal.invariant-loop-bound
invariant-loop-bound l = ((j : ℕ) → l.from ≤ j → j < l.from + l.bound-index → l.least ≤ get_or l.bounds j 2049) × (l.least ≤ 2049)
