-- How far the loop over decisions has come.
use Rattle.std.specs.Prelude.{◌≤◌, ◌*◌, ◌^◌, List, Bool, length}
use Rattle.std.specs.List.{AllByRecursion}
use Rattle.fb_script.specs.Allowed as allowed
use Rattle.fb_rows.specs.Tasks.{HasTaskBelow}
use Rattle.fb_rows.specs.declared.run.Run.{Run}
use Rattle.fb_model.specs.FullRun.{IsFull}
use Rattle.fb_model.specs.Inputs.{Inputs}
use Rattle.fb_model.specs.Steps.{Step}
use Rattle.fb_decide.specs.RunState.{RunState}
use Rattle.fb_decide.specs.Making.{HasMade}
use Rattle.fb_decide.specs.FullRuns.{AreRowsOf}

-- these decisions have been made, none of their rows has been taken, and perhaps more follow
pub record HasAdvanced (inputs : Inputs) (more : Bool) (state : RunState) : Type 0 where
  pub steps : List Step
  pub made : HasMade inputs more steps state
  pub rows : AreRowsOf inputs steps state.course.fore state.course.background.rows
  pub fit : AllByRecursion (HasTaskBelow (length (allowed.tasks inputs.calls))) state.course.background.rows

-- the full run, within the limits of its reports
pub record IsWhole (inputs : Inputs) (run : Run) : Type 0 where
  pub full : IsFull inputs run
  pub few : length run.fore ≤ 10 ^ 6
  pub early : run.end ≤ 9 * 10 ^ 18
  pub tasks : AllByRecursion (HasTaskBelow (length (allowed.tasks inputs.calls))) run.back
