use Rattle.fb_units.proofs.Lists.{drop_at}
use Rattle.fb_report.proofs.Words.{arith, refl, ap, ◌+◌, map, ◌∙◌}
use Rattle.fb_report.proofs.{Sums.goes_on, Sums.greater}
use Rattle.fb_report.proofs.summary.Served.of.Goals as goal

pub loop-i-preserved : goal.loop-i-preserved
loop-i-preserved c =
    let so_far = c.loop-i.invariant in
    let row = c.get-row.result.now in
    let split = drop_at c.args.rows.now c.loop-i.i row c.get-row.ensures in
    record {
      sectors = goes_on _ _ _ _ _ _ so_far.sectors row split refl;
      finish = goes_on _ _ _ _ _ _ so_far.finish row.finish (ap (map (λ row. row.finish)) split) (c.max-finish.ensures
          ∙ greater c.loop-i.finish row.finish);
      response = goes_on _ _ _ _ _ _ so_far.response row split (ap (λ x. c.loop-i.response + x) c.saturating_sub.ensures);
      few_sectors = omega (arith, so_far.few_sectors);
      short = omega (arith, so_far.short);
    }
