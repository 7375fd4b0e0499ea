use Rattle.fb_detour.proofs.Words.{get_or, length, ℕ, ◌<◌, ◌≡◌, IsKey}
use Rattle.fb_detour.proofs.search.keys_of.Given as goal

abbrev pub invariant-loop-j : goal.invariant-loop-j
invariant-loop-j l = (length l.keys ≡ 8) × ((j : ℕ) → j < l.j → IsKey l.search l.from l.end l.width j (get_or l.keys j 0))
