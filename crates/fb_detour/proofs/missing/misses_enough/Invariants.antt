use Rattle.fb_detour.proofs.Words.{take, ◌+◌, ◌≡◌, sum_by, missed}
use Rattle.fb_detour.proofs.missing.misses_enough.Given as goal

abbrev pub invariant-loop-offer : goal.invariant-loop-offer
invariant-loop-offer l = l.most + sum_by (missed l.stop.turning l.latest) (take l.offer-index l.stop.offers.now) ≡ l.stop.weight
