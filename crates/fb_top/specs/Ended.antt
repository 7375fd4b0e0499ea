-- How the program ends.
use Rattle.std.specs.Prelude.{◌≡◌, ℕ, Result}
use Rattle.fb_desk.specs.View.{DeskView}
use Rattle.fb_words.specs.Command.{Terms}
use Rattle.fb_words.specs.declared.fault.UsageFault.{UsageFault}
use Rattle.fb_top.specs.declared.outcome.Outcome.{Outcome}
use Rattle.fb_top.specs.Answers.{IsAnswered}
use Rattle.fb_top.specs.Status.{status_of}

-- the exit status is that of an outcome with which the top call may answer
pub record EndsWith (reading : Result Terms UsageFault) (old new : DeskView) (status : ℕ) : Type 0 where
  pub outcome : Outcome
  pub ends : status ≡ status_of outcome
  pub answered : IsAnswered reading old new outcome
