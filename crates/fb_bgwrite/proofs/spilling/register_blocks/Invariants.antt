use Rattle.fb_bgwrite.proofs.Words.{◌≡◌, ◌+◌, ◌≤◌, ◌++◌, length, map, cutting, blocks_of, registered_count, numbered, wanted_entry}
use Rattle.fb_sectormap.specs.Runs.{IsSpan}
use Rattle.fb_bgwrite.proofs.spilling.register_blocks.Given as goal

-- the registered blocks and those that are left are all of the put's
abbrev pub invariant-loop-left : goal.invariant-loop-left
invariant-loop-left l = record {
  all : l.pending ++ map wanted_entry (numbered l.number 1 l.block_number (cutting l.sectors 2048 l.lbn l.left))
      ≡ l.initial.pending ++ map wanted_entry (numbered l.number 1 0 (cutting l.sectors 2048 l.fn.put.first l.fn.put.count));
  next : l.block_number ≡ registered_count l.number (blocks_of l.pending);
  within : l.lbn + l.left ≡ l.fn.put.first + l.fn.put.count;
  span : IsSpan l.sectors l.span;
  few : length l.pending + l.left ≤ 16000000;
}

abbrev pub decreases-loop-left : goal.decreases-loop-left
decreases-loop-left l = l.left
