use Rattle.fb_fastq.proofs.Words.{Waiting}
use Rattle.fb_fastq.proofs.Walks.{spot, walk_begins, next_along, walk_goes_on, walk_reaches, walk_pauses, walk_stops}
use Rattle.fb_fastq.proofs.Swept.{swept_ends, none_left}
use Rattle.fb_fastq.proofs.soonest.walk.Goals as goal

pub loop-key-init : goal.loop-key-init
loop-key-init c = record {
  visit = c.requires.any;
  walk = walk_begins c.args.disk.now c.args.from c.args.waiting.now c.args.first c.args.ray c.those_of-left.result
      c.requires.first c.those_of-left.ensures.ordered c.those_of-left.ensures.those;
}

pub go_on-requires-clause-spot : goal.go_on-requires-clause-spot
go_on-requires-clause-spot c =
    let next : Waiting = (c.in-Some.key.now, c.in-Some.field-0-1.now) in
    (next_along c.loop-key.invariant.walk c.requires.spots next c.next.new.left c.in-Some.ensures).on_disk

pub returns-then-is_too_far-clause-least : goal.returns-then-is_too_far-clause-least
returns-then-is_too_far-clause-least c = λ k r held on nearer.
    walk_stops c.loop-key.invariant.walk c.requires.spots (c.in-Some.key.now, c.in-Some.field-0-1.now) c.next.new.left c.in-Some.ensures
    c.go_on.new.self c.go_on.ensures.start c.go_on.ensures.end c.requires.outside c.go_on.ensures.visit
    (c.is_too_far.ensures c.if-is_too_far.true) k r held on

pub returns-then-few-eq0-clause-reached : goal.returns-then-few-eq0-clause-reached
returns-then-few-eq0-clause-reached c =
    walk_reaches c.loop-key.invariant.walk c.requires.spots (c.in-Some.key.now, c.in-Some.field-0-1.now) c.next.new.left c.in-Some.ensures
    c.go_on.new.self c.go_on.ensures.start c.go_on.ensures.end

pub returns-then-few-eq0-clause-least : goal.returns-then-few-eq0-clause-least
returns-then-few-eq0-clause-least c =
    walk_pauses c.loop-key.invariant.walk c.requires.spots (c.in-Some.key.now, c.in-Some.field-0-1.now) c.next.new.left c.in-Some.ensures
    c.go_on.new.self c.go_on.ensures.start c.go_on.ensures.end

pub loop-key-preserved : goal.loop-key-preserved
loop-key-preserved c =
    let walk = c.loop-key.invariant.walk in
    let next : Waiting = (c.in-Some.key.now, c.in-Some.field-0-1.now) in
    let rest = c.next.new.left in
    let along = next_along walk c.requires.spots next rest c.in-Some.ensures in
    let wait = c.wait-wait.ensures.value c.args.from _ c.go_on.ensures.visit along in record {
      visit = c.go_on.ensures.visit;
      walk = walk_goes_on walk c.requires.spots next rest c.in-Some.ensures c.wait-wait.result c.sooner-best.result wait
          c.sooner-best.ensures.one c.sooner-best.ensures.first c.sooner-best.ensures.second;
    }

pub returns-clause-least : goal.returns-clause-least
returns-clause-least c = λ k r held on nearer.
    swept_ends spot c.loop-key.invariant.walk.swept (none_left c.args.ray.side c.loop-key.left c.next.new.left c.in_default.ensures)
    (k, r) (held, on)
