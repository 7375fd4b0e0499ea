use Rattle.std.proofs.Common.{◌≡◌, length}
use Rattle.fb_wanted.specs.Numbering.{blocks_of, registered_count}
use Rattle.fb_plan.specs.Ways.{AreOnDisk}
use Rattle.test_queues.proofs.gaps.registered.Given as goal

abbrev pub invariant-loop-i : goal.invariant-loop-i
invariant-loop-i l = (registered_count 0 (blocks_of l.blocks) ≡ l.i) × (length l.blocks ≡ l.i) × AreOnDisk l.disk l.blocks
