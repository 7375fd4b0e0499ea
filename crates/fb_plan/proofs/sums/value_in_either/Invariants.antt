use Rattle.fb_plan.proofs.Words.{◌≡◌, ◌≤◌, ◌*◌, ◌^◌, take, sum_by, added}
use Rattle.fb_plan.specs.Turns.{passes_in_either}
use Rattle.fb_plan.proofs.sums.value_in_either.Given as goal

abbrev pub invariant-loop-offer : goal.invariant-loop-offer
invariant-loop-offer l = (l.sum ≤ 2 ^ 32 * l.offer-index)
    × (l.sum ≡ sum_by (added (passes_in_either l.early l.pair.early.end l.late l.pair.late.end)) (take l.offer-index l.offers))
