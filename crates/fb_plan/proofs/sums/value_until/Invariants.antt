use Rattle.fb_plan.proofs.Words.{◌≡◌, ◌≤◌, ◌*◌, ◌^◌, take, sum_by, added, passes_by}
use Rattle.fb_plan.proofs.sums.value_until.Given as goal

abbrev pub invariant-loop-offer : goal.invariant-loop-offer
invariant-loop-offer l = (l.sum ≤ 2 ^ 32 * l.offer-index)
    × (l.sum ≡ sum_by (added (passes_by l.turning l.latest)) (take l.offer-index l.offers))
