use Rattle.std.proofs.Common.{◌≡◌, length}
use Rattle.fb_seek.specs.Table.{AreTimes}
use Rattle.fb_seek.proofs.mechanism.Mechanism.all_times.Given as goal

abbrev pub invariant-loop-distance : goal.invariant-loop-distance
invariant-loop-distance l = (AreTimes l.self l.times.items) × (length l.times.items ≡ l.distance)
