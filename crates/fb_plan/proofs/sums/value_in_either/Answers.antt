use Rattle.fb_plan.proofs.Both.{sum-next}
use Rattle.fb_plan.proofs.sums.value_in_either.Goals as goal

pub loop-offer-preserved : goal.loop-offer-preserved
loop-offer-preserved c =
    let one = c.added_in_either-sum.ensures in sum-next _ _ _ c.loop-offer-test.true c.loop-offer.invariant one.value one.small
