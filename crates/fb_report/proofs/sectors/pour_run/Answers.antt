use Rattle.fb_report.proofs.Words.{ℕ, ◌+◌, ◌∙◌, ap, subst, arith, length, sector_bytes}
use Rattle.fb_report.proofs.Ranges.{counted}
use Rattle.fb_report.proofs.sectors.pour_run.Goals as goal

pub loop-i-preserved : goal.loop-i-preserved
loop-i-preserved g c =
    let run = c.args.run.now in
    let i = c.loop-i.i in
    record {
      took = λ before h.
          subst (λ bytes. g.S.Sink.took c.take.new.self bytes)
          (counted (λ (k : ℕ). sector_bytes (run.first + k) (length c.args.sector.now) run.content) before c.bytes_into.new.into i
          (c.bytes_into.ensures ∙ ap (λ n. sector_bytes (run.first + i) n run.content) c.loop-i.invariant.size))
          (c.in_ok-take.ensures _ (c.loop-i.invariant.took before h));
      size = let same = c.bytes_into.auto.into in omega (arith, c.loop-i.invariant.size);
    }
