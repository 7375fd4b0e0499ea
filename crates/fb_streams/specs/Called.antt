-- What calls a command makes of its desk.
use Rattle.std.specs.Prelude.{◌≡◌, ◌⊎◌, ℕ, List, [], ◌∷◌, ◌++◌, Bool, true, false, Option, Some, None, IfSome, is_some, codes}
use Rattle.std.specs.Prelude.{Result, Ok, Err}
use Rattle.std.specs.List.{AllByRecursion}
use Rattle.std.specs.Option.{option_map}
use Rattle.fb_desk.specs.View.{Call, opens, reads, begins, writes}
use Rattle.fb_desk.specs.declared.desk.Failed.{Failed}
use Rattle.fb_desk.specs.declared.desk.Input.{Input}
use Rattle.fb_desk.specs.declared.desk.Input.TheVariants as inputs
use Rattle.fb_desk.specs.declared.desk.Output.{Output}
use Rattle.fb_desk.specs.declared.desk.Output.TheVariants as outputs
use Rattle.fb_words.specs.Command.{Terms, ReplayTerms, MakeTerms, CheckTerms, ArrayTerms, replays, makes, checks, arrays}
use Rattle.fb_words.specs.declared.fault.UsageFault.{UsageFault}
use Rattle.fb_streams.specs.declared.streams.InputError.{InputError}
use Rattle.fb_streams.specs.declared.streams.InputError.TheVariants as errors
use Rattle.fb_streams.specs.Names.{FileNames, name_of, replay_names, check_names, array_names}

-- the calls that a desk tells, the last first
abbrev pub Told : Type 0
Told = Option (List Call)

-- the names that the words of a command give to inputs and to outputs
pub record Asked : Type 0 where
  pub inputs : Input → Option (List ℕ)
  pub outputs : Output → Option (List ℕ)

-- the last of these bytes is a line feed
abbrev pub EndsLine : List ℕ → Type 0
EndsLine bytes = (front : List ℕ) × (bytes ≡ front ++ 10 ∷ [])

-- the words ask for this call: an input is opened or an output is begun under its name, or 4,096 bytes are asked for, or bytes up
-- to the end of a line are handed over
abbrev pub IsAsked : Asked → Call → Type 0
IsAsked asked (opens which name done) = asked.inputs which ≡ Some name
IsAsked asked (reads which room done) = (is_some (asked.inputs which) ≡ true) × (room ≡ 4096)
IsAsked asked (begins which name done) = asked.outputs which ≡ Some name
IsAsked asked (writes which bytes done) = (is_some (asked.outputs which) ≡ true) × EndsLine bytes

-- the files of a run are asked for under these names
pub record AsksFiles (asked : Asked) (names : FileNames) : Type 0 where
  pub params : asked.inputs inputs.Params ≡ Some names.params
  pub trace : asked.inputs inputs.Trace ≡ Some names.trace
  pub calls : asked.inputs inputs.Calls ≡ names.calls

-- the call succeeded
abbrev pub has_succeeded : Call → Bool
has_succeeded (opens which name done) = done
has_succeeded (reads which room done) = done
has_succeeded (begins which name done) = done
has_succeeded (writes which bytes done) = done

-- an input or an output
pub data Stream : Type 0 where
  of_input : Input → Stream
  of_output : Output → Stream

-- it is a call of this input or output
abbrev pub IsOf : Stream → Call → Type 0
IsOf stream (opens which name done) = stream ≡ of_input which
IsOf stream (reads which room done) = stream ≡ of_input which
IsOf stream (begins which name done) = stream ≡ of_output which
IsOf stream (writes which bytes done) = stream ≡ of_output which

-- the words ask for this call, and it succeeded
pub record IsServed (asked : Asked) (call : Call) : Type 0 where
  pub asked_for : IsAsked asked call
  pub succeeded : has_succeeded call ≡ true

-- the words ask for this call, it is one of this input or output, and it failed
pub record HasFailed (asked : Asked) (stream : Stream) (call : Call) : Type 0 where
  pub asked_for : IsAsked asked call
  pub of : IsOf stream call
  pub failed : has_succeeded call ≡ false

-- each call made since is one that the words ask for, and succeeded
pub record AreServed (asked : Asked) (old new : Told) : Type 0 where
  pub since : IfSome new (λ calls. (made earlier : List Call) × (old ≡ Some earlier) × (calls ≡ made ++ earlier)
      × AllByRecursion (IsServed asked) made)

-- the last call made since failed, and is one of this input or output; those before it succeeded, and the words ask for each
pub record StopsAt (asked : Asked) (stream : Stream) (old new : Told) : Type 0 where
  pub since : IfSome new (λ calls. (last : Call) × (before : List Call) × (calls ≡ last ∷ before) × HasFailed asked stream last
      × AreServed asked old (Some before))

-- the calls of a part of a command: all succeeded; or, where an input or an output is named, the last is one of it and failed
abbrev pub EndsBy : Asked → Option Stream → Told → Told → Type 0
EndsBy asked None old new = AreServed asked old new
EndsBy asked (Some stream) old new = StopsAt asked stream old new

-- the same by what the part answers: an error names the input or the output of the call that failed, if one did
abbrev pub Ends : {T E : Type 0} → (E → Option Stream) → Asked → Result T E → Told → Told → Type 0
Ends failed asked (Ok x) old new = EndsBy asked None old new
Ends failed asked (Err error) old new = EndsBy asked (failed error) old new

-- where an input was not read to its end, a call of it failed; or none did, since it is too long or memory ran out
abbrev pub failed_reading : Input → InputError → Option Stream
failed_reading input errors.Failed = Some (of_input input)
failed_reading input _ = None

-- where a text was not written whole, a call of its output failed
abbrev pub failed_writing : Output → Failed → Option Stream
failed_writing output failed = Some (of_output output)

-- nothing
abbrev pub asks_nothing : Asked
asks_nothing = record { inputs = λ input. None; outputs = λ output. None }

-- the names that a replay gives to outputs
abbrev pub replay_outputs : ReplayTerms → Output → Option (List ℕ)
replay_outputs terms outputs.Fore = Some (codes "-")
replay_outputs terms outputs.Back = terms.back
replay_outputs terms outputs.Spill = terms.spill
replay_outputs terms _ = None

-- the names that a make gives to inputs and to outputs
abbrev pub make_inputs : MakeTerms → Input → Option (List ℕ)
make_inputs terms inputs.Params = Some terms.params
make_inputs terms _ = None

abbrev pub make_outputs : MakeTerms → Output → Option (List ℕ)
make_outputs terms outputs.MadeTrace = Some terms.trace
make_outputs terms outputs.MadeCalls = Some terms.calls
make_outputs terms _ = None

-- the name that a check gives to the output of its verdict
abbrev pub check_outputs : Output → Option (List ℕ)
check_outputs outputs.Fore = Some (codes "-")
check_outputs _ = None

-- the names that an array gives to outputs
abbrev pub array_outputs : ArrayTerms → Output → Option (List ℕ)
array_outputs terms outputs.Fore = Some (codes "-")
array_outputs terms outputs.Back = option_map (λ rebuild. rebuild.back) terms.rebuild
array_outputs terms outputs.Copied = option_map (λ rebuild. rebuild.copy) terms.rebuild
array_outputs terms _ = None

-- what the words of each command ask for
abbrev pub replay_asks : ReplayTerms → Asked
replay_asks terms = record { inputs = name_of (replay_names terms); outputs = replay_outputs terms }

abbrev pub make_asks : MakeTerms → Asked
make_asks terms = record { inputs = make_inputs terms; outputs = make_outputs terms }

abbrev pub check_asks : CheckTerms → Asked
check_asks terms = record { inputs = name_of (check_names terms); outputs = check_outputs }

abbrev pub array_asks : ArrayTerms → Asked
array_asks terms = record { inputs = name_of (array_names terms); outputs = array_outputs terms }

abbrev pub asked_by : Result Terms UsageFault → Asked
asked_by (Ok (replays terms)) = replay_asks terms
asked_by (Ok (makes terms)) = make_asks terms
asked_by (Ok (checks terms)) = check_asks terms
asked_by (Ok (arrays terms)) = array_asks terms
asked_by (Err fault) = asks_nothing
