use Rattle.fb_fastq.proofs.Words.{ap, ◌∙◌, refl, arith, Candidate}
use Rattle.fb_fastq.proofs.Sweeps.{is_one, still_no_later, no_later_than_lane, none_on_lane}
use Rattle.fb_fastq.proofs.soonest.soonest_of_lane.Goals as goal

pub returns-in-Some-clause-least : goal.returns-in-Some-clause-least
returns-in-Some-clause-least c = λ from is k s e at below.
    let disk = c.args.disk.now in
    let waiting = c.args.waiting.now in
    let visit = c.args.visit.now in
    let key = c.in-Some.key in
    let request = c.in-Some.field-0-1 in
    let next : Candidate = record { key = key; wait = c.wait-wait.result } in
    let whole = c.rotation-rotation.ensures.value ∙ ap (λ map. map.rotation) c.geometry.ensures in
    let along = c.requires.spots key request c.in-Some.ensures.found in
    let wait = c.wait-wait.ensures.value from request is along in
    still_no_later disk from.track from.instant waiting c.requires.spots c.sooner.result next k s c.sooner.ensures.second
    (no_later_than_lane disk from.track from.instant waiting c.requires.spots visit.lane is.lane c.rotation-rotation.result whole
    visit.angle (key, request) next
    is.angle_is c.in-Some.ensures.found c.in-Some.ensures.inside.0 c.in-Some.ensures.inside.1 c.in-Some.ensures.first refl wait k s e at
    below)

pub next_round-requires : goal.next_round-requires
next_round-requires c =
    let whole = c.rotation-rotation.ensures.value ∙ ap (λ map. map.rotation) c.geometry.ensures in
    record { from = omega (arith, whole); short = omega (arith, c.requires.lane.few, c.rotation-rotation.ensures.bound) }

pub wait-wait-requires : goal.wait-wait-requires
wait-wait-requires c =
    let inside = c.in-Some.ensures.inside in
    record {
      way = c.requires.way;
      angle = c.requires.angle;
      from = inside.0;
      before = omega (arith, inside.1, c.rotation-rotation.ensures.bound);
    }

pub returns-in-Some-clause-found : goal.returns-in-Some-clause-found
returns-in-Some-clause-found c = λ from is was.
    let disk = c.args.disk.now in
    let key = c.in-Some.key in
    let request = c.in-Some.field-0-1 in
    let next : Candidate = record { key = key; wait = c.wait-wait.result } in
    is_one disk from.track from.instant c.args.waiting.now c.args.best next c.sooner.result key request was c.in-Some.ensures.found refl
    (c.wait-wait.ensures.value from request is (c.requires.spots key request c.in-Some.ensures.found)) c.sooner.ensures.one

pub returns-in-None-clause-least : goal.returns-in-None-clause-least
returns-in-None-clause-least c = λ from is.
    let disk = c.args.disk.now in
    let whole = c.rotation-rotation.ensures.value ∙ ap (λ map. map.rotation) c.geometry.ensures in
    none_on_lane disk from.track from.instant c.args.waiting.now c.requires.spots c.args.visit.now.lane is.lane
    c.rotation-rotation.result whole c.args.best c.in-None.ensures.none
