use Rattle.fb_detour.proofs.Words.{ap, arith, ◌+◌, ◌≡◌, distance_of, seek, distance_to}
use Rattle.fb_detour.proofs.Ranges.{way-on, way-there}
use Rattle.fb_detour.proofs.steps.reach_by.Goals as goal

pub returns : goal.returns
returns c = λ track low high.
    let arm = c.args.search.now.disk.now.mechanism in
    let gap = c.args.search.now.gap.now in
    let cylinder = c.args.cylinder in
    let far : distance_to cylinder (cylinder + 1) gap.source.cylinder ≡ distance_of gap.source.cylinder cylinder = omega arith in
    let there = way-there arm c.seeks_rise.ensures cylinder (cylinder + 1) track low high gap.source in
    let on = way-on arm c.seeks_rise.ensures cylinder (cylinder + 1) track low high gap.target cylinder gap.write (omega arith) in
    (omega (arith, there, ap (seek arm) far, c.requires.seeks.there, on, c.pos_with-on.ensures.value), c.requires.rate track low high)
