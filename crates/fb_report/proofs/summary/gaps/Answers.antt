use Rattle.fb_report.proofs.Words.{ap, arith, length, gap_in}
use Rattle.fb_report.proofs.Sums.{found_at, nothing_at, no_gap}
use Rattle.fb_report.proofs.summary.gaps.Goals.{in-Gap, in_default}
use Rattle.fb_report.proofs.summary.gaps.Goals as goal

pub loop-i-preserved : goal.loop-i-preserved
loop-i-preserved c =
    let so_far = c.loop-i.invariant in
    elim c.match-get.branch [
      | in-Gap w ↦
          let found = found_at gap_in c.args.rows.now c.loop-i.i c.get.result.now w.in-Gap.field-0 c.get.ensures (ap gap_in w.in-Gap.is) in
          record { gaps = omega (arith, w.gaps-is, so_far.gaps, ap length found); few = omega (arith, w.gaps-is, so_far.few) }
      | in_default w ↦
          let other =
          nothing_at gap_in c.args.rows.now c.loop-i.i c.get.result.now c.get.ensures (no_gap c.get.result.now w.in_default.not-Gap) in
          record { gaps = omega (arith, w.gaps-is, so_far.gaps, ap length other); few = omega (arith, w.gaps-is, so_far.few) }
    ]
