use Rattle.fb_geometry.proofs.Words.{drop, find, is_full_cylinder, ◌≡◌}
use Rattle.fb_geometry.proofs.outline.Outline.first_on_full_cylinder.Given as goal

abbrev pub invariant-loop-place : goal.invariant-loop-place
invariant-loop-place l = find (λ place. is_full_cylinder l.self place.track.cylinder) (drop l.place-index l.bad)
    ≡ find (λ place. is_full_cylinder l.self place.track.cylinder) l.bad
