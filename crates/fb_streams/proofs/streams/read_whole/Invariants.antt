use Rattle.std.proofs.Common.{◌≡◌, ◌≤◌, ◌+◌, ◌-◌, length, Some, true}
use Rattle.fb_desk.specs.Calls.{ChangesInput, before}
use Rattle.fb_streams.specs.Called.{AreServed, Asked}
use Rattle.fb_streams.proofs.streams.read_whole.Given as goal

abbrev pub invariant-pieces : goal.invariant-pieces
invariant-pieces g l =
    let old = g.D.Desk.seen l.fn.desk in
    let new = g.D.Desk.seen l.desk in
    record {
      short : length l.bytes.items ≤ l.limit + 4096;
      only : ChangesInput l.which old new;
      later : (old.inputs l.which).faults ≤ (new.inputs l.which).faults;
      calls : (asked : Asked) → asked.inputs l.which ≡ Some l.name → AreServed asked old.calls new.calls;
      opened : (new.inputs l.which).opened ≡ true;
      left : before l.bytes.items (new.inputs l.which).left ≡ old.held l.fn.name;
    }

abbrev pub decreases-pieces : goal.decreases-pieces
decreases-pieces g l = l.limit + 1 - length l.bytes.items
