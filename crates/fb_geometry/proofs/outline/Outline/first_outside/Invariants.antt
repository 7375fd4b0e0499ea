use Rattle.fb_geometry.proofs.Words.{drop, find, is_outside, ◌≡◌}
use Rattle.fb_geometry.proofs.outline.Outline.first_outside.Given as goal

abbrev pub invariant-loop-place : goal.invariant-loop-place
invariant-loop-place l = find (is_outside l.self) (drop l.place-index l.places) ≡ find (is_outside l.self) l.places
