use Rattle.std.proofs.Common.{◌≡◌, ◌≤◌, ◌-◌, length, take, true}
use Rattle.std.specs.Prelude.{is_some}
use Rattle.fb_desk.specs.Calls.{ChangesOutput, behind}
use Rattle.fb_streams.specs.Called.{AreServed, Asked}
use Rattle.fb_streams.proofs.streams.write_whole.Given as goal

abbrev pub invariant-loop-done : goal.invariant-loop-done
invariant-loop-done g l =
    let old = g.D.Desk.seen l.fn.desk in
    let new = g.D.Desk.seen l.desk in
    record {
      within : l.done ≤ length l.text;
      only : ChangesOutput l.which old new;
      later : (old.outputs l.which).faults ≤ (new.outputs l.which).faults;
      calls : (asked : Asked) → is_some (asked.outputs l.which) ≡ true → AreServed asked old.calls new.calls;
      begun : (new.outputs l.which).begun ≡ true;
      name : (new.outputs l.which).name ≡ (old.outputs l.which).name;
      written : (new.outputs l.which).written ≡ behind (old.outputs l.which).written (take l.done l.text);
    }

abbrev pub decreases-loop-done : goal.decreases-loop-done
decreases-loop-done g l = length l.text - l.done
