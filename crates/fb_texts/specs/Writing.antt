-- An output since it was begun.
use Rattle.std.specs.Prelude.{◌≡◌, ℕ, ◌≤◌, List, Some, Result, Ok, Err}
use Rattle.fb_desk.specs.Calls.{ChangesOutput}
use Rattle.fb_desk.specs.View.{DeskView}
use Rattle.fb_desk.specs.declared.desk.Output.{Output}
use Rattle.fb_streams.specs.Called.{Asked, AreServed, EndsBy}
use Rattle.fb_texts.specs.Ends.{failed_output}
use Rattle.fb_texts.specs.Written.{HoldsFront, HoldsWhole, OutputFaultsRose}
use Rattle.fb_texts.specs.declared.error.TextsError.{TextsError}
use Rattle.fb_texts.specs.declared.error.TextsError.TheVariants as faults

-- the output was begun under this name, and this text written to it; no call failed, and nothing else was touched
pub record HasWritten (which : Output) (name text : List ℕ) (old new : DeskView) : Type 0 where
  pub only : ChangesOutput which old new
  pub later : (old.outputs which).faults ≤ (new.outputs which).faults
  pub calls : (asked : Asked) → asked.outputs which ≡ Some name → AreServed asked old.calls new.calls
  pub whole : HoldsWhole (new.outputs which) name text

-- writing to the output stopped: a call of it failed, or memory ran out
abbrev pub StopsWriting : Output → DeskView → DeskView → TextsError → Type 0
StopsWriting which old new (faults.WriteFault output) = (output ≡ which) × OutputFaultsRose old new which
StopsWriting which old new faults.NoMemory = Unit {0}

-- the output, if it was begun, has this name and a front of this text; the error says why, and nothing else was touched
pub record HasStopped (which : Output) (name text : List ℕ) (old new : DeskView) (error : TextsError) : Type 0 where
  pub only : ChangesOutput which old new
  pub cause : StopsWriting which old new error
  pub calls : (asked : Asked) → asked.outputs which ≡ Some name → EndsBy asked (failed_output error) old.calls new.calls
  pub front : HoldsFront (new.outputs which) name text

-- the text was written, or the error says why not
abbrev pub Writes : {T : Type 0} → Output → List ℕ → List ℕ → DeskView → DeskView → Result T TextsError → Type 0
Writes which name text old new (Ok x) = HasWritten which name text old new
Writes which name text old new (Err error) = HasStopped which name text old new error
