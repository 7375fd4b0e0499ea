use Rattle.fb_wanted.proofs.Words.{◌<◌, ◌≤◌, ℕ, get_or, no_block_on}
use Rattle.fb_wanted.proofs.heads.greatest.Given as goal

-- the greatest of those seen
abbrev pub invariant-loop-i : goal.invariant-loop-i
invariant-loop-i l = ((h : ℕ) → h < l.i → (get_or l.tracks h no_block_on).weight ≤ l.greatest)
    × ((most : ℕ) → ((h : ℕ) → (get_or l.tracks h no_block_on).weight ≤ most) → l.greatest ≤ most)
