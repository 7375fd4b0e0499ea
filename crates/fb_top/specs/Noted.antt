-- What becomes of the note.
use Rattle.std.specs.Prelude.{◌≡◌, ◌⊎◌, ℕ, List, [], true, Option, Some, None, IfSome, codes}
use Rattle.fb_desk.specs.Calls.{ChangesOutput, Rose}
use Rattle.fb_desk.specs.View.{DeskView, OutputView}
use Rattle.fb_desk.specs.declared.desk.Output.{Output}
use Rattle.fb_desk.specs.declared.desk.Output.TheVariants.{Note}
use Rattle.fb_top.specs.declared.outcome.Outcome.{Outcome}
use Rattle.fb_top.specs.declared.outcome.Outcome.TheVariants as outcomes
use Rattle.fb_streams.specs.Called.{AreServed, Asked, StopsAt, Told, of_output}
use Rattle.fb_streams.specs.Streams.{IsFront}
use Rattle.fb_top.specs.Notes.{note_of}

-- the whole line; nothing, where memory ran out; or a front of it, where the count of faults rose
abbrev pub IsNote : List ℕ → OutputView → OutputView → List ℕ → Type 0
IsNote line old new bytes = (bytes ≡ line) ⊎ (bytes ≡ []) ⊎ (IsFront bytes line × Rose old.faults new.faults)

-- the output is begun as `-`, unless its count of faults rose, and holds the note where the desk tells it
pub record TellsNote (line : List ℕ) (old new : OutputView) : Type 0 where
  pub begun : (new.begun ≡ true) ⊎ Rose old.faults new.faults
  pub name : new.begun ≡ true → IfSome new.name (λ name. name ≡ codes "-")
  pub written : new.begun ≡ true → IfSome new.written (IsNote line old new)

-- the note alone, under the name `-`
abbrev pub note_name : Output → Option (List ℕ)
note_name Note = Some (codes "-")
note_name _ = None

abbrev pub asks_note : Asked
asks_note = record { inputs = λ input. None; outputs = note_name }

-- the calls of a note: all succeeded, or the last failed
abbrev pub MakesNote : Told → Told → Type 0
MakesNote old new = AreServed asks_note old new ⊎ StopsAt asks_note (of_output Note) old new

-- this line is written as the note, and nothing but the note's output is touched
pub record WritesNote (line : List ℕ) (old new : DeskView) : Type 0 where
  pub only : ChangesOutput Note old new
  pub calls : MakesNote old.calls new.calls
  pub tells : TellsNote line (old.outputs Note) (new.outputs Note)

-- what follows an outcome: its note, and nothing where a command was done
abbrev pub IsNoted : Outcome → DeskView → DeskView → Type 0
IsNoted (outcomes.Done run) old new = new ≡ old
IsNoted (outcomes.Made n) old new = new ≡ old
IsNoted (outcomes.Checked verdict) old new = new ≡ old
IsNoted (outcomes.Arrayed runs copy) old new = new ≡ old
IsNoted (outcomes.Spilled run spill) old new = new ≡ old
IsNoted outcome old new = WritesNote (note_of outcome) old new
