use Rattle.fb_bgwrite.proofs.Words.{arith, refl, true, Track}
use Rattle.fb_bgwrite.proofs.Depths.{nearer_there, nearer_on}
use Rattle.fb_bgwrite.proofs.search.least_moves.Goals as goal

pub returns-clause-least : goal.returns-clause-least
returns-clause-least c = λ track low high.
    let arm = c.args.disk.now.mechanism in
    let gap = c.args.gap.now in
    let near_source : Track = record { cylinder = c.nearest.result; head = gap.source.head } in
    let near_target : Track = record { cylinder = c.nearest-2.result; head = gap.target.head } in
    let at_source = c.nearest.ensures.near track.cylinder low high in
    let at_target = c.nearest-2.ensures.near track.cylinder low high in
    let there = nearer_there arm track gap.source near_source true c.seeks_rise.ensures refl (omega (arith, at_source)) in
    let on = nearer_on arm track gap.target near_target gap.write c.seeks_rise.ensures refl at_target in
    (omega (arith, there, c.pos.ensures.value), omega (arith, on, c.pos-2.ensures.value))
