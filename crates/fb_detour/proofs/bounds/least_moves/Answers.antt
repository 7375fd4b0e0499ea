use Rattle.fb_detour.proofs.Words.{ap, arith, seek}
use Rattle.fb_detour.proofs.Ranges.{way-on, way-there}
use Rattle.fb_detour.proofs.bounds.least_moves.Goals as goal

pub returns-clause-least : goal.returns-clause-least
returns-clause-least c = λ track low high.
    let arm = c.args.disk.now.mechanism in
    let gap = c.args.gap.now in
    let there = way-there arm c.seeks_rise.ensures c.args.from c.args.end track low high gap.source in
    let on = way-on arm c.seeks_rise.ensures c.args.from c.args.end track low high gap.target c.min.result gap.write
    (omega (arith, c.min.ensures, c.max.ensures)) in (
      omega (arith, there, c.seek-there.ensures.value, ap (seek arm) c.distance_to.ensures.value),
      omega (arith, on, c.pos-on.ensures.value),
    )
