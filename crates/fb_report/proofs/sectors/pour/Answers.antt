use Rattle.fb_report.proofs.Words.{ap, subst, arith, run_bytes}
use Rattle.fb_report.proofs.Ranges.{taken}
use Rattle.fb_report.proofs.sectors.pour.Goals as goal

pub loop-index-preserved : goal.loop-index-preserved
loop-index-preserved g c =
    let k = c.loop-index.index in
    record {
      took = λ before h.
          subst (λ bytes. g.S.Sink.took c.pour_run.new.sink bytes)
          (taken (run_bytes c.args.sector_bytes) before _ c.args.contents.now k c.get.result c.get.ensures.value
          (ap (λ n. run_bytes n c.get.result) c.loop-index.invariant.size))
          (c.in_ok-pour_run.ensures _ (c.loop-index.invariant.took before h));
      size = let same = c.pour_run.auto.sector in omega (arith, c.loop-index.invariant.size);
    }
