use Rattle.fb_report.proofs.Words.{ap, arith, length, delivery_in}
use Rattle.fb_report.proofs.Sums.{found_at, nothing_at, goes_on, stays, no_delivery}
use Rattle.fb_report.proofs.summary.Delivered.of.Goals.{in-Got, in_default}
use Rattle.fb_report.proofs.summary.Delivered.of.Goals as goal

pub loop-i-preserved : goal.loop-i-preserved
loop-i-preserved c =
    let so_far = c.loop-i.invariant in
    elim c.match-get.branch [
      | in-Got w ↦
          let found =
          found_at delivery_in c.args.rows.now c.loop-i.i c.get.result.now w.in-Got.row c.get.ensures (ap delivery_in w.in-Got.is) in
          record {
            blocks = omega (arith, w.blocks-is, so_far.blocks, ap length found);
            sectors = goes_on _ _ _ _ _ _ so_far.sectors w.in-Got.row found w.sectors-is;
            bad = goes_on _ _ _ _ _ _ so_far.bad w.in-Got.row found w.bad-is;
            few = omega (arith, w.blocks-is, so_far.few);
            few_sectors = omega (arith, w.sectors-is, so_far.few_sectors);
            few_bad = omega (arith, w.bad-is, so_far.few_bad);
          }
      | in_default w ↦
          let other = nothing_at delivery_in c.args.rows.now c.loop-i.i c.get.result.now c.get.ensures (no_delivery c.get.result.now
          w.in_default.not-Got) in
          record {
            blocks = omega (arith, w.blocks-is, so_far.blocks, ap length other);
            sectors = stays _ _ _ _ _ _ so_far.sectors other w.sectors-is;
            bad = stays _ _ _ _ _ _ so_far.bad other w.bad-is;
            few = omega (arith, w.blocks-is, so_far.few);
            few_sectors = omega (arith, w.sectors-is, so_far.few_sectors);
            few_bad = omega (arith, w.bad-is, so_far.few_bad);
          }
    ]
