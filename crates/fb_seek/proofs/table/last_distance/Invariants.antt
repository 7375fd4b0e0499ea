use Rattle.std.proofs.Common.{◌≡◌, drop}
use Rattle.fb_seek.specs.Faults.{last_distance}
use Rattle.fb_seek.proofs.table.last_distance.Given as goal

abbrev pub invariant-loop-point : goal.invariant-loop-point
invariant-loop-point l = last_distance l.fn.first l.points ≡ last_distance l.last (drop l.point-index l.points)
