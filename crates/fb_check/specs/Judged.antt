-- What was judged between two decisions.
use Rattle.std.specs.Prelude.{◌≡◌, List, [], Bool}
use Rattle.fb_rows.specs.declared.fore.ForeRow.{ForeRow}
use Rattle.fb_rows.specs.declared.back.BackRow.{BackRow}
use Rattle.fb_model.specs.Inputs.{Inputs}
use Rattle.fb_decide.specs.RunState.{RunState}
use Rattle.fb_model.specs.Steps.{Step}
use Rattle.fb_decide.specs.Making.{HasMade}
use Rattle.fb_check.specs.declared.comparing.Comparison.{Comparison}
use Rattle.fb_decide.specs.FullRuns.{AreRowsOf}
use Rattle.fb_check.specs.Verdict.{Reports}
use Rattle.fb_check.specs.Comparing.{CanCompare, HasComparedFore, HasComparedBack}

-- these steps have been made, their rows were taken out, and the lines of the rows were compared
pub record HasJudged (inputs : Inputs) (printed : Reports) (more : Bool) (state : RunState) (fore back : Comparison) : Type 0 where
  pub steps : List Step
  pub made : HasMade inputs more steps state
  pub no_fore : state.course.fore ≡ []
  pub no_back : state.course.background.rows ≡ []
  pub fore_rows : List ForeRow
  pub back_rows : List BackRow
  pub rows : AreRowsOf inputs steps fore_rows back_rows
  pub fore_compared : HasComparedFore inputs.disk.sector_bytes printed.bytes printed.fore fore fore_rows
  pub back_compared : HasComparedBack printed.names inputs.disk.sector_bytes printed.bytes printed.back back back_rows
  pub fore_ready : CanCompare fore
  pub back_ready : CanCompare back
