-- What goes well is done.
use Rattle.std.specs.Prelude.{◌≡◌, ℕ, List, true, is_some, IfSome, Result, Ok, Err}
use Rattle.fb_desk.specs.View.{DeskView}
use Rattle.fb_desk.specs.declared.desk.Input.{Input}
use Rattle.fb_desk.specs.declared.desk.Output.TheVariants.{Fore, Back, Spill}
use Rattle.fb_puts.specs.Reading.{Accepted as PutsRead}
use Rattle.fb_report.specs.Grammar.{Grammar, LineFields, fore_grammar, back_grammar}
use Rattle.fb_words.specs.Command.{Terms, ReplayTerms, CheckTerms, replays, makes, checks, arrays}
use Rattle.fb_words.specs.declared.fault.UsageFault.{UsageFault}
use Rattle.fb_top.specs.declared.outcome.Outcome.{Outcome}
use Rattle.fb_top.specs.declared.outcome.Outcome.TheVariants as outcomes
use Rattle.fb_streams.specs.Names.{InputNames, replay_names, check_names}
use Rattle.fb_inputs.specs.Read.{Files, Accepts, ReadsPuts, ReadsReport}
use Rattle.fb_texts.specs.Written.{OutputFaultsRose}
use Rattle.fb_inputs.specs.Causes.{FaultsRose}
use Rattle.fb_top.specs.Make.{MakeGoesWell, MakesAll}
use Rattle.fb_top.specs.Array.{ArrayGoesWell, IsReplayed}

-- the desk tells what a report holds, and it is accepted
pub record TellsReport (desk : DeskView) (grammar : Grammar) (name : List ℕ) : Type 0 where
  pub lines : List LineFields
  pub reads : ReadsReport desk name grammar lines
  pub told : is_some (desk.held name) ≡ true

-- and what the puts are, and they are accepted for these files
pub record TellsPuts (desk : DeskView) (files : Files) (name : List ℕ) : Type 0 where
  pub puts : PutsRead
  pub reads : ReadsPuts desk name files puts
  pub told : is_some (desk.held name) ≡ true

-- the desk tells what each input holds, all are accepted, and no call of an input failed
pub record ReadsWell (old new : DeskView) (names : InputNames) : Type 0 where
  pub files : Files
  pub accepts : Accepts old names.files files
  pub params_told : is_some (old.held names.files.params) ≡ true
  pub trace_told : is_some (old.held names.files.trace) ≡ true
  pub calls_told : IfSome names.files.calls (λ name. is_some (old.held name) ≡ true)
  pub puts_told : IfSome names.puts (TellsPuts old files)
  pub fore_told : IfSome names.fore (TellsReport old fore_grammar)
  pub back_told : IfSome names.back (TellsReport old back_grammar)
  pub calm : (input : Input) → FaultsRose old new input → ⊥

-- the inputs of a replay are read well, and no count of faults of its outputs rises
pub record GoesWell (old new : DeskView) (terms : ReplayTerms) : Type 0 where
  pub inputs : ReadsWell old new (replay_names terms)
  pub fore : OutputFaultsRose old new Fore → ⊥
  pub back : OutputFaultsRose old new Back → ⊥
  pub spill : OutputFaultsRose old new Spill → ⊥

-- and so those of a check
pub record CheckGoesWell (old new : DeskView) (terms : CheckTerms) : Type 0 where
  pub inputs : ReadsWell old new (check_names terms)
  pub fore : OutputFaultsRose old new Fore → ⊥

-- the replay was made, unless memory ran out
abbrev pub IsMade : Outcome → Type 0
IsMade (outcomes.Done run) = Unit {0}
IsMade (outcomes.Spilled run spill) = Unit {0}
IsMade outcomes.NoMemory = Unit {0}
IsMade outcome = ⊥

-- the reports were judged, unless memory ran out
abbrev pub IsJudged : Outcome → Type 0
IsJudged (outcomes.Checked verdict) = Unit {0}
IsJudged outcomes.NoMemory = Unit {0}
IsJudged outcome = ⊥

-- what goes well is done
abbrev pub IsComplete : Result Terms UsageFault → DeskView → DeskView → Outcome → Type 0
IsComplete (Ok (replays terms)) old new outcome = GoesWell old new terms → IsMade outcome
IsComplete (Ok (makes terms)) old new outcome = MakeGoesWell old new terms → MakesAll terms outcome
IsComplete (Ok (checks terms)) old new outcome = CheckGoesWell old new terms → IsJudged outcome
IsComplete (Ok (arrays terms)) old new outcome = ArrayGoesWell old new terms → IsReplayed outcome
IsComplete (Err fault) old new outcome = Unit {0}
