use Rattle.fb_wanted.proofs.Words.{◌≡◌, ℕ, length, get_or, no_block_on}
use Rattle.fb_wanted.proofs.heads.add_to.Given as goal

-- only tracks with no block are added, up to the head's
abbrev pub invariant-loop : goal.invariant-loop
invariant-loop l = ((h : ℕ) → get_or l.tracks.items h no_block_on ≡ get_or l.initial.tracks.items h no_block_on)
    × (length l.tracks.items ≡ l.counter)
