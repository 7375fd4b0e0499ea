use Rattle.fb_geometry.proofs.Words.{drop, find, is_full_track, ◌≡◌}
use Rattle.fb_geometry.proofs.outline.Outline.first_on_full_track.Given as goal

abbrev pub invariant-loop-place : goal.invariant-loop-place
invariant-loop-place l = find (λ place. is_full_track l.self place.track) (drop l.place-index l.defects)
    ≡ find (λ place. is_full_track l.self place.track) l.defects
