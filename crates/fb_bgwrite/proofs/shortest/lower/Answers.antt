use Rattle.fb_units.proofs.Changed.{one_blank_more}
use Rattle.fb_bgwrite.proofs.Words.{length, refl, ap, arith, length_push}
use Rattle.fb_bgwrite.proofs.shortest.lower.Goals as goal

pub loop-preserved : goal.loop-preserved
loop-preserved c =
    let bounds = c.loop.bounds.items in
    let pushed = c.in_ok-push.ensures.items in (
      one_blank_more c.args.bounds.now.items bounds c.push.new.self.items 2049 2049 c.loop.invariant.0 pushed refl,
      omega (arith, ap length pushed, length_push bounds 2049, c.loop.invariant.1),
    )
