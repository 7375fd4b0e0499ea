use Rattle.fb_params.proofs.Words.{◌≡◌, map, take, view, point_of}
use Rattle.fb_params.proofs.seek.points.Given as goal

abbrev pub invariant-loop-row : goal.invariant-loop-row
invariant-loop-row l = l.points.items ≡ map point_of (map view (take l.row-index l.rows))
