use Rattle.fb_detour.proofs.Words.{ap, arith, Shape, wanted_of, tracks-more}
use Rattle.fb_detour.proofs.Found.{through}
use Rattle.fb_detour.proofs.Ranges.{cylinder-done}
use Rattle.fb_detour.proofs.search.try_cylinder.Goals as goal

pub loop-head-preserved : goal.loop-head-preserved
loop-head-preserved c =
    let search = c.args.search.now in
    let new = c.try_track-best in
    let old = c.loop-head.best.plan in record {
      scored = new.ensures.scored;
      keeps = through search new.result.plan old c.args.best.plan new.ensures.keeps c.loop-head.invariant.keeps;
      tried = λ head less leave. tracks-more search.disk.now search.gap.now (wanted_of search.wanted.now) new.result.plan old
          (λ h. record { cylinder = c.args.cylinder; head = h }) c.loop-head.head new.ensures.keeps new.ensures.tried
          (λ h l b. c.loop-head.invariant.tried h b l) head leave less;
    }

pub returns-clause-tried : goal.returns-clause-tried
returns-clause-tried c =
    let all = ap (λ (d : Shape). d.heads) c.geometry-2.ensures in
    cylinder-done c.args.search.now c.loop-head.best.plan c.args.cylinder c.loop-head.head
    (omega (arith, c.loop-head-test.false, c.heads-head-end.ensures.value, all)) c.loop-head.invariant.tried

pub try_track-best-requires-clause-reach : goal.try_track-best-requires-clause-reach
try_track-best-requires-clause-reach c =
    c.reach_by-reach.ensures (record { cylinder = c.args.cylinder; head = c.loop-head.head }) (omega arith) (omega arith)
