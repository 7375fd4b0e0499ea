use Rattle.std.proofs.Common.{◌≡◌, ◌+◌}
use Rattle.fb_sectormap.specs.Runs.{IsSpan}
use Rattle.test_places.proofs.sectors.cuts.Given as goal

abbrev pub invariant-loop-left : goal.invariant-loop-left
invariant-loop-left l = record {
  span : IsSpan l.map l.span;
  range : l.lbn + l.left ≡ l.first + l.count;
}

abbrev pub decreases-loop-left : goal.decreases-loop-left
decreases-loop-left l = l.left
