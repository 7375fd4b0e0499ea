-- The rows that decisions give, one decision after another, are those of a full run.
use Rattle.std.specs.Prelude.{◌≡◌, List, [], ◌∷◌, ◌++◌, Bool, false}
use Rattle.std.specs.List.{flat_map}
use Rattle.fb_rows.specs.declared.fore.ForeRow.{ForeRow}
use Rattle.fb_rows.specs.declared.back.BackRow.{BackRow}
use Rattle.fb_model.specs.Inputs.{Inputs}
use Rattle.fb_model.specs.Content.{medium_of, fore_rows}
use Rattle.fb_model.specs.Decisions.{decisions, run_end}
use Rattle.fb_model.specs.Steps.{Step, decision_in, decisions_in, history, AtEach, step_rows, task_rows}
use Rattle.fb_model.specs.FullRun.{IsFull}
use Rattle.fb_decide.specs.RunState.{RunState}
use Rattle.fb_decide.specs.Making.{IsMade, fore_row_of, HasMade}

-- each of these steps is as a full run has it, and the rows are theirs
pub record AreRowsOf (inputs : Inputs) (steps : List Step) (fore : List ForeRow) (back : List BackRow) : Type 0 where
  pub each : AtEach (IsMade inputs) inputs [] steps
  pub fore_so_far : fore ≡ flat_map (fore_row_of (medium_of inputs)) (decisions_in steps)
  pub back_so_far : back ≡ flat_map (step_rows inputs.disk) steps

-- one more step adds its rows
abbrev pub RowsGoOn : Type 0
RowsGoOn = (inputs : Inputs) (steps : List Step) (step : Step) (fore : List ForeRow) (back : List BackRow)
    → AreRowsOf inputs steps fore back → IsMade inputs (history inputs steps) step
    → AreRowsOf inputs (steps ++ step ∷ []) (fore ++ fore_row_of (medium_of inputs) (decision_in step)) (back ++ step_rows inputs.disk step)

-- the foreground rows of the decisions so far are the first of the plain replay's
abbrev pub ForeRowsBegin : Type 0
ForeRowsBegin = (inputs : Inputs) (more : Bool) (steps : List Step) (state : RunState) (fore : List ForeRow) (back : List BackRow)
    → HasMade inputs more steps state → AreRowsOf inputs steps fore back
    → (rest : List ForeRow) × (fore ++ rest ≡ fore_rows inputs)

-- where no decision is left, the foreground rows are all of the plain replay's
abbrev pub ForeRowsEnd : Type 0
ForeRowsEnd = (inputs : Inputs) (steps : List Step) (state : RunState) (fore : List ForeRow) (back : List BackRow)
    → HasMade inputs false steps state → AreRowsOf inputs steps fore back → fore ≡ fore_rows inputs

-- and with the rows of the tasks they are a full run
abbrev pub RowsAreFull : Type 0
RowsAreFull = (inputs : Inputs) (steps : List Step) (state : RunState) (fore : List ForeRow) (back : List BackRow)
    → HasMade inputs false steps state → AreRowsOf inputs steps fore back
    → IsFull inputs (record {
      fore = fore;
      back = back ++ task_rows (history inputs steps);
      passed_over = inputs.passed_over;
      end = run_end (decisions inputs);
    })

-- whoever adds the rows of one decision after another has a full run in the end
pub record DecisionsMakeARun : Type 0 where
  pub go_on : RowsGoOn
  pub begin : ForeRowsBegin
  pub end : ForeRowsEnd
  pub full : RowsAreFull
