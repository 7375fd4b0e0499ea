use Rattle.std.proofs.Common.{◌≡◌, ◌+◌, ◌≤◌, length}
use Rattle.fb_sectormap.specs.Cutting.{cutting}
use Rattle.fb_sectormap.specs.Runs.{IsSpan}
use Rattle.fb_calls.proofs.blocks.count_cuts.Given as goal

abbrev pub invariant-loop-left : goal.invariant-loop-left
invariant-loop-left l = record {
  cuts : l.cuts + length (cutting l.map l.block l.lbn l.left) ≡ length (cutting l.map l.block l.first l.count);
  range : l.lbn + l.left ≡ l.first + l.count;
  few : l.cuts ≤ l.most;
  span : IsSpan l.map l.span;
}

abbrev pub decreases-loop-left : goal.decreases-loop-left
decreases-loop-left l = l.left
