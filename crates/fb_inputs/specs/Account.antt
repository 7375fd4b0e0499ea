-- What the reading of inputs does to a desk.
use Rattle.std.specs.Prelude.{◌≡◌, ◌⊎◌, ℕ, ◌<◌, List, Option, Some, None, Result, Ok, Err}
use Rattle.fb_desk.specs.View.{DeskView, InputView}
use Rattle.fb_desk.specs.declared.desk.Input.{Input}
use Rattle.fb_desk.specs.declared.desk.Input.TheVariants.{Params, Trace, Calls, Puts, ForeReport, BackReport}
use Rattle.fb_streams.specs.Called.{Asked, EndsBy, Stream}
use Rattle.fb_streams.specs.Streams.{IsOpenedAs, KeepsOutputs}
use Rattle.fb_inputs.specs.Ends.{failed_input}
use Rattle.fb_inputs.specs.declared.error.InputsError.{InputsError}

-- the place of an input in the order of reading
abbrev pub rank : Input → ℕ
rank Params = 0
rank Trace = 1
rank Calls = 2
rank Puts = 3
rank ForeReport = 4
rank BackReport = 5

-- no input that is read after this one was touched
abbrev pub KeepsLater : Input → DeskView → DeskView → Type 0
KeepsLater input old new = (other : Input) → rank input < rank other → new.inputs other ≡ old.inputs other

-- no input has changed
abbrev pub KeepsInputs : DeskView → DeskView → Type 0
KeepsInputs old new = (input : Input) → new.inputs input ≡ old.inputs input

-- the input is as it was; or the words give it a name, and what is left of it, if it is open, is an end of what is held under that name
abbrev pub IsReadAs : Option (List ℕ) → DeskView → InputView → InputView → Type 0
IsReadAs given desk old new = (new ≡ old) ⊎ ((name : List ℕ) × (given ≡ Some name) × IsOpenedAs name desk new)

-- so it is with each input, by the names that the words give
abbrev pub AreReadAs : (Input → Option (List ℕ)) → DeskView → DeskView → Type 0
AreReadAs names old new = (input : Input) → IsReadAs (names input) old (old.inputs input) (new.inputs input)

-- no input behind the last one was touched, and those up to it only under the names that the words give; the words ask for each call, and
-- none failed, or only the final one, which is of `failed`; no output was touched, and nothing that is held
pub record Account (asked : Asked) (last : Input) (failed : Option Stream) (old new : DeskView) : Type 0 where
  pub held : (name : List ℕ) → new.held name ≡ old.held name
  pub inputs : AreReadAs asked.inputs old new
  pub later : KeepsLater last old new
  pub outputs : KeepsOutputs old new
  pub calls : EndsBy asked failed old.calls new.calls

-- the input of which a call failed, if that stopped the reading
abbrev pub failed_in : {T : Type 0} → Result T InputsError → Option Stream
failed_in (Ok x) = None
failed_in (Err error) = failed_input error
