use Rattle.std.proofs.Common.{◌≡◌, ◌+◌, ◌<◌, ◌^◌, drop}
use Rattle.fb_seek.specs.Faults.{first_bad, stays_near}
use Rattle.fb_seek.proofs.table.first_near.Given as goal

abbrev pub invariant-loop-index : goal.invariant-loop-index
invariant-loop-index l =
    (first_bad stays_near 1 l.fn.first l.points ≡ first_bad stays_near (l.index + 1) l.before (drop l.index l.points))
    × (l.index < l.before.distance) × (l.before.distance < 2 ^ 32)
