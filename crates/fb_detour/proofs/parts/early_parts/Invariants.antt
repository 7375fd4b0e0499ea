use Rattle.fb_detour.proofs.Words.{take, ℕ, ◌*◌, ◌+◌, ◌<◌, ◌≡◌, sum_by, added, passes_by, sum_of_first}
use Rattle.fb_detour.proofs.parts.early_parts.Given as goal

abbrev pub invariant-loop-offer : goal.invariant-loop-offer
invariant-loop-offer l = (k : ℕ) → k < 16 → sum_of_first (k + 1) l.parts
    ≡ sum_by (added (passes_by l.stop.turning (l.stop.turning.from + (k + 1) * l.step))) (take l.offer-index l.stop.offers.now)
