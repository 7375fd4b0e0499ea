use Rattle.fb_fastq.proofs.Words.{ℕ, ap, arith, subst, Track, sptf, IsFirstHeld, IsCandidate}
use Rattle.fb_fastq.proofs.Sweeps.{soonest_is_first}
use Rattle.fb_fastq.proofs.soonest.soonest_in_map.Goals as goal

pub returns-clause-found : goal.returns-clause-found
returns-clause-found c = λ some.
    let disk = c.args.disk.now in
    let waiting = c.args.waiting.now in
    let from = c.departure_from-from.result in
    subst (λ (track : Track). IsCandidate disk track c.args.now waiting c.soonest_on.result) c.departure_from-from.ensures.track
    (subst (λ (now : ℕ). IsCandidate disk from.track now waiting c.soonest_on.result) c.departure_from-from.ensures.instant
    c.soonest_on.ensures.found)

pub returns-clause-first : goal.returns-clause-first
returns-clause-first c = λ some.
    let disk = c.args.disk.now in
    let waiting = c.args.waiting.now in
    let key = c.soonest_on.result.key in
    let from = c.departure_from-from.result in
    subst (λ (track : Track). IsFirstHeld (sptf disk track c.args.now) waiting key) c.departure_from-from.ensures.track
    (subst (λ (now : ℕ). IsFirstHeld (sptf disk from.track now) waiting key) c.departure_from-from.ensures.instant
    (soonest_is_first disk from.track from.instant c.cylinder_start-start.result waiting c.soonest_on-first.result c.soonest_on.result
    c.soonest_on.ensures.found c.soonest_on.ensures.first c.soonest_on-first.ensures.least c.soonest_on.ensures.least))

pub visit_to-visit-requires-clause-spot : goal.visit_to-visit-requires-clause-spot
visit_to-visit-requires-clause-spot c =
    (c.requires.spots c.next_or_first.result.0 c.next_or_first.result.1 c.next_or_first.ensures.found).on_disk

pub wait-wait-requires : goal.wait-wait-requires
wait-wait-requires c =
    let visit = c.visit_to-visit.ensures in
    record { way = visit.visit.short_way; angle = visit.visit.turned; from = visit.start; before = visit.end }

pub soonest_on-first-requires : goal.soonest_on-first-requires
soonest_on-first-requires c =
    let from = c.departure_from-from.result in
    let visit = c.visit_to-visit.ensures.visit in
    let request = c.next_or_first.result.1 in
    let held = c.next_or_first.ensures.found in
    let along = c.requires.spots c.next_or_first.result.0 request held in
    record {
      spots = c.requires.spots;
      from = c.departure_from-from.ensures.departure;
      outside = omega (arith, c.cylinder_start-start.ensures.value, ap (λ t. t.cylinder) c.departure_from-from.ensures.track);
      any = visit;
      first = record { request = request; waits = held; wait = c.wait-wait.ensures.value from request visit along };
    }

pub soonest_on-requires : goal.soonest_on-requires
soonest_on-requires c = record {
  spots = c.requires.spots;
  from = c.departure_from-from.ensures.departure;
  outside = omega (arith, c.cylinder_start-start.ensures.value, ap (λ t. t.cylinder) c.departure_from-from.ensures.track);
  any = c.visit_to-visit.ensures.visit;
  first = c.soonest_on-first.ensures.found;
}
