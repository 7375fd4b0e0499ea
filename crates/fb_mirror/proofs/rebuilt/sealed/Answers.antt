use Rattle.fb_mirror.proofs.Listing.{seal_passed}
use Rattle.fb_mirror.proofs.rebuilt.sealed.Goals as goal

pub loop-i-preserved : goal.loop-i-preserved
loop-i-preserved c = seal_passed c.args.rows.now c.loop-i.i c.get.result.now c.get.ensures c.in_default.not-Seal c.loop-i.invariant
