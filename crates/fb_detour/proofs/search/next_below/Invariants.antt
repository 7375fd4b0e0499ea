use Rattle.fb_detour.proofs.Words.{get_or, ℕ, ◌<◌, ◌≤◌}
use Rattle.fb_detour.proofs.Keys.{IsAmong}
use Rattle.fb_detour.proofs.search.next_below.Given as goal

abbrev pub invariant-loop-j : goal.invariant-loop-j
invariant-loop-j l = (0 < l.key → l.key < l.below) × (0 < l.key → IsAmong l.keys l.key)
    × ((i : ℕ) → i < l.j → get_or l.keys i 0 < l.below → get_or l.keys i 0 ≤ l.key)
