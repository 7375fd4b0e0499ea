use Rattle.fb_wanted.proofs.Words.{◌<◌, ◌≤◌, ℕ, length, get_or, no_block_on}
use Rattle.fb_wanted.proofs.heads.next_with_block.Given as goal

-- none of the heads seen has a block
abbrev pub invariant-loop-head : goal.invariant-loop-head
invariant-loop-head l = (h : ℕ) → 0 < length (get_or l.tracks h no_block_on).indexes → l.from ≤ h → l.head ≤ h
