-- How the calls of a command end.
use Rattle.std.specs.Prelude.{◌≡◌, Option, Some, None}
use Rattle.fb_streams.specs.Called.{Asked, EndsBy, Stream, Told, of_input, of_output}
use Rattle.fb_inputs.specs.declared.error.InputsError.{InputsError}
use Rattle.fb_inputs.specs.declared.error.InputsError.TheVariants as inputs
use Rattle.fb_texts.specs.declared.error.TextsError.{TextsError}
use Rattle.fb_texts.specs.declared.error.TextsError.TheVariants as faults
use Rattle.fb_top.specs.declared.outcome.Outcome.{Outcome}
use Rattle.fb_top.specs.declared.outcome.Outcome.TheVariants as outcomes

-- the input or the output of the call that failed, which the outcome names
abbrev pub failed_at : Outcome → Option Stream
failed_at (outcomes.ReadFault input) = Some (of_input input)
failed_at (outcomes.WriteFault output) = Some (of_output output)
failed_at _ = None

-- the outcome where texts were not all written
abbrev pub unwritten : TextsError → Outcome
unwritten (faults.WriteFault output) = outcomes.WriteFault output
unwritten faults.NoMemory = outcomes.NoMemory

-- the outcome where inputs were not all accepted
abbrev pub unread : InputsError → Outcome
unread (inputs.Params fault) = outcomes.Params fault
unread (inputs.Trace fault) = outcomes.Trace fault
unread (inputs.Calls fault) = outcomes.Calls fault
unread (inputs.Puts fault) = outcomes.Puts fault
unread (inputs.Reports fault) = outcomes.Reports fault
unread (inputs.TooLong input) = outcomes.TooLong input
unread (inputs.ReadFault input) = outcomes.ReadFault input
unread inputs.NoMemory = outcomes.NoMemory

-- the outcome is that of an error of inputs, which has this cause; so it is none that says that a command was done
abbrev pub IsUnaccepted : (InputsError → Type 0) → Outcome → Type 0
IsUnaccepted stops outcome = (error : InputsError) × (outcome ≡ unread error) × stops error

-- the calls of a command with this outcome: where a call failed, it was the last, and the outcome names its input or its output
abbrev pub EndsAs : Asked → Outcome → Told → Told → Type 0
EndsAs asked outcome old new = EndsBy asked (failed_at outcome) old new
