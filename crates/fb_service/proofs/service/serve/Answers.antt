use Rattle.fb_service.proofs.Words.{◌+◌, ◌-◌, [], ◌++◌, refl, sym, ap, ◌∙◌, subst, arith, AllByRecursion, IsTrackOf, place_at, passages_of}
use Rattle.fb_service.proofs.Words.{all_passages_of, IsUnbroken}
use Rattle.fb_units.proofs.Lists.{all_push}
use Rattle.fb_service.proofs.Serving.{served_more, first_media, all_served, finish-all, no_passages, passing-more, all_take}
use Rattle.fb_service.proofs.service.serve.Goals as goal

pub loop-served-init : goal.loop-served-init
loop-served-init c =
    let s = c.stretch_extent-last in
    let disk = c.args.disk.now in
    record {
      so_far = served_more disk c.args.source c.args.now c.args.write c.args.lbn c.args.count (c.args.lbn
          + s.result.count) (c.args.count - s.result.count) s.result s.result.end s.result.track [] _ _
          s.ensures.unbroken s.ensures.timed s.ensures.first s.ensures.begin (omega (arith, s.ensures.bound)) refl refl refl
          (ap (λ xs. all_passages_of disk.map xs ++ passages_of disk.map s.result) c.new-extents.ensures.items) refl;
      extents = subst (AllByRecursion (IsUnbroken disk.map)) (sym c.new-extents.ensures.items) tt;
      unbroken = s.ensures.unbroken;
      on_disk = s.ensures.on_disk;
      next = omega (arith, s.ensures.first);
      some = omega arith;
      upto = s.ensures.bound;
      forward = s.ensures.takes_time;
      each = passing-more disk.map c.args.lbn 0 c.args.lbn s.result.count (c.args.lbn
          + s.result.count) (λ y up down. absurd (omega arith)) s.ensures.timed refl;
      later = s.ensures.takes_time;
      soon = omega (arith, s.ensures.soon, s.ensures.unbroken.some);
    }

pub loop-served-preserved : goal.loop-served-preserved
loop-served-preserved c =
    let s = c.stretch_extent-next in
    let disk = c.args.disk.now in
    let l = c.loop-served in
    let added = c.in_ok-add_extent.ensures in
    let lbn = c.args.lbn + l.served in
    record {
      so_far = served_more disk l.last.track l.last.end c.args.write lbn (c.args.count - l.served) (c.args.lbn
          + (l.served + s.result.count)) (c.args.count - (l.served + s.result.count)) s.result
          c.add_extent.new.last.end c.add_extent.new.last.track _ _ _
          s.ensures.unbroken s.ensures.timed s.ensures.first s.ensures.begin (omega (arith, s.ensures.bound))
          (omega arith) added.end added.track added.passages l.invariant.so_far;
      extents = added.extents;
      unbroken = added.unbroken;
      on_disk = subst (IsTrackOf disk.map) (sym added.track) s.ensures.on_disk;
      next = omega (arith, added.next, s.ensures.first);
      some = omega (arith, added.few, l.invariant.some);
      upto = omega (arith, s.ensures.bound);
      forward = added.forward;
      each = passing-more disk.map c.args.lbn 0 lbn s.result.count (c.args.lbn
          + (l.served + s.result.count)) l.invariant.each s.ensures.timed (omega arith);
      later = omega (arith, added.end, l.invariant.later, s.ensures.after, s.ensures.takes_time);
      soon = omega (arith, added.end, s.ensures.soon, l.invariant.soon, s.ensures.unbroken.some);
    }

pub returns-clause-passages : goal.returns-clause-passages
returns-clause-passages c =
    let l = c.loop-served in
    all_served c.args.disk.now.map l.extents.items c.push.new.self.items l.last _ _ c.in_ok-push.ensures.ok
    (no_passages c.args.disk.now l.last.track l.last.end c.args.write (c.args.lbn + l.served) (c.args.count - l.served)
    (omega (arith, c.loop-served-test.false))) l.invariant.so_far

pub returns-clause-media : goal.returns-clause-media
returns-clause-media c =
    c.stretch_extent-last.ensures.begin ∙ sym
    (first_media c.args.disk.now c.args.source c.args.now c.args.write c.args.lbn c.args.count c.requires.access.some)

pub returns-clause-finish : goal.returns-clause-finish
returns-clause-finish c =
    let l = c.loop-served in
    finish-all c.args.disk.now.map c.args.now _ _ _ l.last l.invariant.unbroken
    (no_passages c.args.disk.now l.last.track l.last.end c.args.write (c.args.lbn + l.served) (c.args.count - l.served)
    (omega (arith, c.loop-served-test.false))) l.invariant.so_far

pub returns-clause-last_track : goal.returns-clause-last_track
returns-clause-last_track c =
    let l = c.loop-served in
    sym (l.invariant.unbroken.on_track (l.last.count - 1) (omega (arith, l.invariant.unbroken.some)))
    ∙ ap (λ x. (place_at c.args.disk.now.map x).track)
    (omega (arith, l.invariant.next, l.invariant.upto, l.invariant.unbroken.some, c.loop-served-test.false))

pub returns-clause-each : goal.returns-clause-each
returns-clause-each c =
    let l = c.loop-served in
    all_take c.args.disk.now c.args.source c.args.now c.args.write c.args.lbn c.args.count
    (λ x from below. l.invariant.each x from (omega (arith, c.loop-served-test.false)))

pub returns-clause-unbroken : goal.returns-clause-unbroken
returns-clause-unbroken c =
    let l = c.loop-served in
    subst (AllByRecursion (IsUnbroken c.args.disk.now.map)) (sym c.in_ok-push.ensures.ok)
    (all_push (IsUnbroken c.args.disk.now.map) l.extents.items l.last l.invariant.extents l.invariant.unbroken)

pub stretch_extent-next-requires : goal.stretch_extent-next-requires
stretch_extent-next-requires c =
    let l = c.loop-served in
    record {
      source = l.invariant.on_disk;
      some = omega (arith, c.loop-served-test.true);
      blocks = omega (arith, c.requires.access.inside, l.invariant.upto);
      now = omega (arith, l.invariant.soon, l.invariant.upto, c.requires.now, c.requires.access.few);
    }

pub add_extent-requires : goal.add_extent-requires
add_extent-requires c =
    let s = c.stretch_extent-next in
    let l = c.loop-served in
    record {
      next = omega (arith, l.invariant.next, s.ensures.first);
      room = omega (arith, l.invariant.some, l.invariant.upto, s.ensures.bound, c.requires.access.few);
      forward = l.invariant.forward;
      after = s.ensures.after;
      takes_time = s.ensures.takes_time;
      unbroken = l.invariant.unbroken;
      next_unbroken = s.ensures.unbroken;
      timed = rw s.ensures.first s.ensures.timed;
      extents = l.invariant.extents;
    }
