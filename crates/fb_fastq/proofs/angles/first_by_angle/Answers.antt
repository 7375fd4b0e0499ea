use Rattle.fb_fastq.proofs.Words.{◌∙◌, ap, refl}
use Rattle.fb_fastq.proofs.Passing.{arc_ahead, first_of_arcs}
use Rattle.fb_fastq.proofs.angles.first_by_angle.Goals as goal

pub soonest_of_arc-best-requires-clause-arc : goal.soonest_of_arc-best-requires-clause-arc
soonest_of_arc-best-requires-clause-arc c =
    arc_ahead c.args.disk.now c.args.now _ c.rotation-rotation.result
    (c.rotation-rotation.ensures.value ∙ ap (λ map. map.rotation) c.geometry.ensures) refl

pub returns-clause-first : goal.returns-clause-first
returns-clause-first c =
    let found = c.soonest_of_arc.ensures.found (c.soonest_of_arc-best.ensures.found
    (record { request = c.next_or_first.result.1; waits = c.next_or_first.ensures.found; wait = c.key_of-wait.ensures })) in
    first_of_arcs c.args.disk.now c.args.head c.args.now c.args.waiting.now c.requires.spots _ c.rotation-rotation.result
    (c.rotation-rotation.ensures.value ∙ ap (λ map. map.rotation) c.geometry.ensures)
    c.soonest_of_arc-best.result c.soonest_of_arc.result found c.soonest_of_arc.ensures.first
    c.soonest_of_arc-best.ensures.least c.soonest_of_arc.ensures.least
