use Rattle.std.proofs.Common.{◌≡◌, ◌≤◌, ◌+◌, ◌*◌, ◌^◌, ◌++◌, length, drop}
use Rattle.fb_clean.specs.Segments.{live_blocks}
use Rattle.fb_clean.proofs.segment.live_lbns.Given as goal

abbrev pub invariant-loop-i : goal.invariant-loop-i
invariant-loop-i l = record {
  room : l.lbn + length (drop l.i l.live) * l.block ≤ 10 ^ 12;
  so_far : l.lbns.items ++ live_blocks l.block l.lbn (drop l.i l.live) ≡ live_blocks l.block l.first l.live;
}
