use Rattle.std.proofs.Common.{◌≡◌, ◌+◌, ◌*◌, ◌-◌, ◌≤◌, length, take, drop}
use Rattle.fb_script.specs.Blocks.{live_cuts}
use Rattle.fb_calls.specs.Live.{bits}
use Rattle.fb_calls.proofs.blocks.count_live_cuts.Given as goal

abbrev pub invariant-loop-i : goal.invariant-loop-i
invariant-loop-i l = record {
  cuts : l.cuts + length (live_cuts l.map l.block (l.first + l.i * l.block) (drop l.i (take l.blocks (bits l.live))))
      ≡ length (live_cuts l.map l.block l.first (take l.blocks (bits l.live)));
  few : l.cuts ≤ l.most;
}

abbrev pub decreases-loop-i : goal.decreases-loop-i
decreases-loop-i l = l.blocks - l.i
