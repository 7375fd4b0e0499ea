use Rattle.std.proofs.lemmas.List.{map_more, take_all}
use Rattle.fb_geometry.proofs.Words.{Place, ap, map, mark_of, sym, ◌∙◌}
use Rattle.fb_geometry.proofs.Marking.{inside_at}
use Rattle.fb_geometry.proofs.outline.Outline.unsorted_marks.Goals as goal

abbrev none : Place
none = record { track = record { cylinder = 0; head = 0 }; slot = 0 }

pub mark-requires-clause-inside : goal.mark-requires-clause-inside
mark-requires-clause-inside c =
    inside_at c.args.self.now c.args.places.now c.loop-place.place-index none c.requires.inside c.loop-place-test.true

pub loop-place-preserved : goal.loop-place-preserved
loop-place-preserved c = rw (c.push.ensures.items, c.in_ok-push.was, c.loop-place.invariant, c.mark.ensures)
    (sym (map_more (mark_of c.args.self.now) c.args.places.now c.loop-place.place-index none c.loop-place-test.true))

pub returns : goal.returns
returns c = c.loop-place.invariant ∙ ap (map (mark_of c.args.self.now)) (take_all _ c.args.places.now c.loop-place-test.false)
