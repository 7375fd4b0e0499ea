-- Why a command has its answer.
use Rattle.std.specs.Prelude.{◌⊎◌}
use Rattle.fb_desk.specs.View.{DeskView}
use Rattle.fb_words.specs.Command.{ReplayTerms, CheckTerms}
use Rattle.fb_top.specs.declared.outcome.Outcome.{Outcome}
use Rattle.fb_top.specs.declared.outcome.Outcome.TheVariants as outcomes
use Rattle.fb_streams.specs.Names.{replay_names, check_names}
use Rattle.fb_texts.specs.declared.error.TextsError.TheVariants as faults
use Rattle.fb_top.specs.Done.{IsDone}
use Rattle.fb_top.specs.Spilled.{IsReplayCut, IsSpilled}
use Rattle.fb_top.specs.Checked.{IsChecked, IsVerdictCut}
use Rattle.fb_inputs.specs.Causes.{RunsOut, StopsInputs}
use Rattle.fb_top.specs.Ends.{IsUnaccepted}

-- the cause of each answer to the terms of a replay
abbrev pub HasCause : ReplayTerms → DeskView → DeskView → Outcome → Type 0
HasCause terms old new (outcomes.Done run) = IsDone old new terms run
HasCause terms old new (outcomes.Spilled run spill) = IsSpilled old new terms run spill
HasCause terms old new (outcomes.WriteFault output) = IsReplayCut old new terms (faults.WriteFault output)
HasCause terms old new outcomes.NoMemory = RunsOut old new (replay_names terms) ⊎ IsReplayCut old new terms faults.NoMemory
HasCause terms old new outcome = IsUnaccepted (StopsInputs (replay_names terms) old new) outcome

-- the cause of each answer to the terms of a check
abbrev pub CheckHasCause : CheckTerms → DeskView → DeskView → Outcome → Type 0
CheckHasCause terms old new (outcomes.Checked verdict) = IsChecked old new terms verdict
CheckHasCause terms old new (outcomes.WriteFault output) = IsVerdictCut old new terms (faults.WriteFault output)
CheckHasCause terms old new outcomes.NoMemory = RunsOut old new (check_names terms) ⊎ IsVerdictCut old new terms faults.NoMemory
CheckHasCause terms old new outcome = IsUnaccepted (StopsInputs (check_names terms) old new) outcome
