-- A desk in memory as contracts see it.
use Rattle.std.specs.Prelude.{◌≡◌, ℕ, ◌-◌, List, [], Bool, is_some, length, Option, Some, None}
use Rattle.fb_desk.specs.declared.desk.Input.{Input}
use Rattle.fb_desk.specs.declared.desk.Output.{Output}
use Rattle.fb_desk.specs.View.{InputView, OutputView, DeskView, IsUnused, IsFaultless}
use Rattle.fb_desk.specs.Calls.{one_more}
use Rattle.fb_desk.specs.FailingCalls.{FailingNumbers, fails_next}

-- the most bytes that one read and one write move, and the room in bytes of each output, for what is written and for its name
pub record MemoryLimits : Type 0 where
  pub read_piece : ℕ
  pub write_piece : ℕ
  pub room : Output → ℕ

-- what is held under each name and left of each opened input, how each output was begun and what was written to it,
-- the counts of faults, the calls that are to fail, and the limits
pub record MemoryState : Type 0 where
  pub held : List ℕ → Option (List ℕ)
  pub left : Input → Option (List ℕ)
  pub begun : Output → Bool
  pub begun_as : Output → List ℕ
  pub written : Output → List ℕ
  pub read_faults : Input → ℕ
  pub write_faults : Output → ℕ
  pub failing : FailingNumbers
  pub limits : MemoryLimits

-- an input shows all of its bytes that are left
abbrev pub memory_input : MemoryState → Input → InputView
memory_input desk which = record { opened = is_some (desk.left which); left = desk.left which; faults = desk.read_faults which }

-- an output shows its name and its bytes
abbrev pub memory_output : MemoryState → Output → OutputView
memory_output desk which = record {
  begun = desk.begun which;
  name = Some (desk.begun_as which);
  written = Some (desk.written which);
  faults = desk.write_faults which;
}

-- a desk in memory tells everything but its calls
abbrev pub view_of : MemoryState → DeskView
view_of desk = record { held = desk.held; inputs = memory_input desk; outputs = memory_output desk; calls = None }

-- the number of the next call is among those of the calls that are to fail
abbrev pub is_to_fail : MemoryState → Bool
is_to_fail desk = fails_next desk.failing

-- the room left in an output
abbrev pub free_in : MemoryState → Output → ℕ
free_in desk which = desk.limits.room which - length (desk.written which)

-- the limits are the same
pub record KeepsLimits (old new : MemoryState) : Type 0 where
  pub read_piece : new.limits.read_piece ≡ old.limits.read_piece
  pub write_piece : new.limits.write_piece ≡ old.limits.write_piece
  pub room : (which : Output) → new.limits.room which ≡ old.limits.room which

-- one more call was made, and the limits are the same
pub record CountsCall (old new : MemoryState) : Type 0 where
  pub made : new.failing ≡ record old.failing { made = one_more old.failing.made }
  pub limits : KeepsLimits old new

-- nothing is held, opened, begun or written, no count has risen, and no call was made or is to fail
pub record IsNewMemory (read_piece write_piece room : ℕ) (desk : MemoryState) : Type 0 where
  pub held : (name : List ℕ) → desk.held name ≡ None
  pub unused : IsUnused (view_of desk)
  pub written : (which : Output) → desk.written which ≡ []
  pub begun_as : (which : Output) → desk.begun_as which ≡ []
  pub faultless : IsFaultless (view_of desk)
  pub failing : desk.failing ≡ record { numbers = []; made = 0 }
  pub read_piece_is : desk.limits.read_piece ≡ read_piece
  pub write_piece_is : desk.limits.write_piece ≡ write_piece
  pub room_is : (which : Output) → desk.limits.room which ≡ room
