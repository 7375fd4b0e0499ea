use Rattle.fb_params.proofs.Words.{◌≡◌, map, take, view, place_of}
use Rattle.fb_params.proofs.outline.places.Given as goal

abbrev pub invariant-loop-row : goal.invariant-loop-row
invariant-loop-row l = l.places.items ≡ map place_of (map view (take l.row-index l.rows))
