use Rattle.fb_report.proofs.Words.{arith}
use Rattle.fb_report.proofs.Ranges.{sum_more}
use Rattle.fb_report.proofs.contents.sectors.Goals as goal

pub loop-index-preserved : goal.loop-index-preserved
loop-index-preserved c =
    let range = c.get.ensures.range in (
      omega (
        arith,
        c.loop-index.invariant.0,
        sum_more (λ run. run.count) c.args.contents.now c.loop-index.index c.get.result c.get.ensures.value,
      ),
      omega (arith, range, c.loop-index.invariant.1),
    )
