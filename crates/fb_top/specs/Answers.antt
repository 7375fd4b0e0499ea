-- What each command line is answered.
use Rattle.std.specs.Prelude.{◌≡◌, ◌⊎◌, Result, Ok, Err}
use Rattle.fb_desk.specs.View.{DeskView}
use Rattle.fb_desk.specs.declared.desk.Output.TheVariants.{Note}
use Rattle.fb_words.specs.Command.{Terms, replays, makes, checks, arrays}
use Rattle.fb_words.specs.declared.fault.UsageFault.{UsageFault}
use Rattle.fb_top.specs.declared.outcome.Outcome.{Outcome}
use Rattle.fb_top.specs.declared.outcome.Outcome.TheVariants as outcomes
use Rattle.fb_streams.specs.Streams.{KeepsOutputs}
use Rattle.fb_streams.specs.Called.{asked_by}
use Rattle.fb_inputs.specs.Account.{AreReadAs}
use Rattle.fb_top.specs.Causes.{HasCause, CheckHasCause}
use Rattle.fb_top.specs.Complete.{IsComplete}
use Rattle.fb_top.specs.Ends.{EndsAs}
use Rattle.fb_top.specs.Noted.{IsNoted}
use Rattle.fb_top.specs.Make.{MakeHasCause}
use Rattle.fb_top.specs.Array.{ArrayHasCause}

-- words that are refused are a usage fault, unless memory runs out
abbrev pub IsRefused : UsageFault → DeskView → DeskView → Outcome → Type 0
IsRefused fault old new outcome = ((outcome ≡ outcomes.Usage fault) ⊎ (outcome ≡ outcomes.NoMemory)) × KeepsOutputs old new

-- the answer to the words of a command line, with its cause
abbrev pub AnswersWords : Result Terms UsageFault → DeskView → DeskView → Outcome → Type 0
AnswersWords (Ok (replays terms)) old new outcome = HasCause terms old new outcome
AnswersWords (Ok (makes terms)) old new outcome = MakeHasCause terms old new outcome
AnswersWords (Ok (checks terms)) old new outcome = CheckHasCause terms old new outcome
AnswersWords (Ok (arrays terms)) old new outcome = ArrayHasCause terms old new outcome
AnswersWords (Err fault) old new outcome = IsRefused fault old new outcome

-- the command is answered, and then its note is written; what was done is told of the desk as it is between the two
pub record IsAnswered (reading : Result Terms UsageFault) (old new : DeskView) (outcome : Outcome) : Type 0 where
  pub between : DeskView
  pub answers : AnswersWords reading old between outcome
  pub complete : IsComplete reading old between outcome
  pub inputs : AreReadAs (asked_by reading).inputs old between
  pub calls : EndsAs (asked_by reading) outcome old.calls between.calls
  pub no_note : between.outputs Note ≡ old.outputs Note
  pub noted : IsNoted outcome between new
