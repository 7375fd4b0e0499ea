use Rattle.fb_geometry.specs.Shape.{IsTrackOf}
use Rattle.test_places.proofs.services.one_by_one.Given as goal

abbrev pub invariant-loop-lbn : goal.invariant-loop-lbn
invariant-loop-lbn l = IsTrackOf l.disk.map l.source
