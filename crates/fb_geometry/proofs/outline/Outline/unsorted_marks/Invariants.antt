use Rattle.fb_geometry.proofs.Words.{map, mark_of, take, ◌≡◌}
use Rattle.fb_geometry.proofs.outline.Outline.unsorted_marks.Given as goal

abbrev pub invariant-loop-place : goal.invariant-loop-place
invariant-loop-place l = l.marks.items ≡ map (mark_of l.self) (take l.place-index l.places)
