use Rattle.std.proofs.Common.{◌≡◌, ◌+◌, drop}
use Rattle.fb_seek.specs.Faults.{first_bad, falls}
use Rattle.fb_seek.proofs.table.first_falling.Given as goal

abbrev pub invariant-loop-index : goal.invariant-loop-index
invariant-loop-index l = first_bad falls 1 l.fn.first l.points ≡ first_bad falls (l.index + 1) l.before (drop l.index l.points)
