use Rattle.fb_mirror.specs.Replacement.{deliveries_in}
use Rattle.fb_mirror.proofs.Listing.{row_added}
use Rattle.fb_mirror.proofs.changes.push_deliveries.Goals as goal

pub loop-i-preserved : goal.loop-i-preserved
loop-i-preserved c =
    row_added deliveries_in c.args.rows.now c.loop-i.i c.get.result.now _ _ _ c.get.ensures c.loop-i.invariant c.in_ok-push_delivery.ensures
