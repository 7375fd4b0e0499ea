-- The full run of inputs, made decision by decision.
use Rattle.std.specs.Prelude.{◌≡◌, List, [], ◌∷◌, ◌++◌}
use Rattle.std.specs.List.{flat_map}
use Rattle.fb_geometry.specs.Sound.{IsSound}
use Rattle.fb_service.specs.declared.disk.Disk.{Disk}
use Rattle.fb_wanted.specs.declared.block.Block.{Block}
use Rattle.fb_rows.specs.declared.back.DeliveryRow.{DeliveryRow}
use Rattle.fb_rows.specs.declared.run.Run.{Run}
use Rattle.fb_model.specs.Inputs.{Inputs}
use Rattle.fb_model.specs.Accepted.{IsAccepted}
use Rattle.fb_model.specs.Content.{Medium, medium_of, contents_at, fore_rows}
use Rattle.fb_model.specs.BestPlan.{best_plan}
use Rattle.fb_model.specs.Decisions.{Decision, serves, idles, ends, instant_of, Act, serving, idling, ending, decisions, run_end}
use Rattle.fb_model.specs.History.{Past, tested, delivered, wanted}
use Rattle.fb_model.specs.Images.{findings, test_rows}
use Rattle.fb_model.specs.Deliveries.{gap_of, due}
use Rattle.fb_model.specs.Steps.{Delivery, Step, chosen_past, with_delivery, past_after, history, step_rows, task_rows}
use Rattle.fb_model.specs.FullRun.{IsFull}

-- what is done at a decision: a request is served after the best plan for the blocks that are wanted
abbrev pub act_at : Disk → List Block → Decision → Act
act_at disk wanted (serves served) = serving served (best_plan disk (gap_of disk served) wanted)
act_at disk wanted (idles dwell) = idling dwell
act_at disk wanted (ends now) = ending now

-- a delivery with its findings and the rows of its test
abbrev pub followed : Medium → Past → DeliveryRow → Delivery
followed medium past row = record { got = row; after = findings past row ++ test_rows medium (delivered row ∷ past) row.end }

-- deliveries, each behind those before it
abbrev pub all_followed : Medium → Past → List DeliveryRow → List Delivery
all_followed medium past [] = []
all_followed medium past (row ∷ rows) =
    followed medium past row ∷ all_followed medium (with_delivery past (followed medium past row)) rows

-- the step at a decision, once calls have taken effect and segments were chosen: all that is due is delivered
abbrev pub step_on : Inputs → Medium → Past → Decision → Step
step_on inputs medium past decision =
    let act = act_at inputs.disk (wanted past) decision in
    let test = test_rows medium past (instant_of decision) in
    record {
      test = test;
      act = act;
      deliveries = all_followed medium (tested test ∷ past) (due medium.disk (contents_at medium) act (wanted past));
    }

-- the step at a decision
abbrev pub step_at : Inputs → Medium → Past → Decision → Step
step_at inputs medium past decision = step_on inputs medium (chosen_past inputs past decision) decision

-- the steps at these decisions, one after another
unfoldable pub steps_at : Inputs → Medium → Past → List Decision → List Step
steps_at inputs medium past [] = []
steps_at inputs medium past (decision ∷ later) =
    let step = step_at inputs medium past decision in
    step ∷ steps_at inputs medium (past_after inputs past step) later

-- the steps of the full run
abbrev pub the_steps : Inputs → List Step
the_steps inputs = steps_at inputs (medium_of inputs) [] (decisions inputs)

-- the run that has these steps
abbrev pub run_of : Inputs → List Step → Run
run_of inputs steps = record {
  fore = fore_rows inputs;
  back = flat_map (step_rows inputs.disk) steps ++ task_rows (history inputs steps);
  passed_over = inputs.passed_over;
  end = run_end (decisions inputs);
}

-- the full run
abbrev pub the_run : Inputs → Run
the_run inputs = run_of inputs (the_steps inputs)

-- it is a full run of the inputs, and no other run is
pub record HasOneRun (inputs : Inputs) : Type 0 where
  pub full : IsFull inputs (the_run inputs)
  pub only : (other : Run) → IsFull inputs other → other ≡ the_run inputs

-- on a disk without a fault, accepted inputs have exactly one full run
abbrev pub FullRunsExist : Type 0
FullRunsExist = (inputs : Inputs) → IsSound inputs.disk.map → IsAccepted inputs → HasOneRun inputs
