-- A sound run.
use Rattle.std.specs.Prelude.{◌≡◌, List, [], ◌∷◌, ◌++◌, map}
use Rattle.std.specs.List.{flat_map}
use Rattle.fb_service.specs.declared.disk.Disk.{Disk}
use Rattle.fb_rows.specs.declared.run.Run.{Run}
use Rattle.fb_rows.specs.declared.gap.Gap.{Gap}
use Rattle.fb_rows.specs.declared.gap.Plan.{Plan}
use Rattle.fb_rows.specs.declared.back.BackRow.{BackRow}
use Rattle.fb_rows.specs.declared.back.DeliveryRow.{DeliveryRow}
use Rattle.fb_model.specs.Inputs.{Inputs}
use Rattle.fb_model.specs.Content.{Medium, medium_of, contents_at, fore_rows}
use Rattle.fb_model.specs.Timeline.{timeline, IsPossible}
use Rattle.fb_model.specs.Plans.{IsPlan}
use Rattle.fb_model.specs.Decisions.{Act, serving, instant_of, decisions, run_end}
use Rattle.fb_model.specs.History.{Past, delivered, wanted}
use Rattle.fb_model.specs.Images.{findings, test_rows}
use Rattle.fb_model.specs.Deliveries.{gap_of, due}
use Rattle.fb_model.specs.Steps.{Delivery, Step, decision_in, decisions_in, chosen_past, tested_past, with_delivery, history, AtEach}
use Rattle.fb_model.specs.Steps.{step_rows, task_rows}

-- some of the elements, in their order
pub data IsSublist {A : Type 0} : List A → List A → Type 0 where
  none : IsSublist [] []
  left_out : {x : A} {xs ys : List A} → IsSublist xs ys → IsSublist xs (x ∷ ys)
  taken : {x : A} {xs ys : List A} → IsSublist xs ys → IsSublist (x ∷ xs) (x ∷ ys)

-- if a request is served, its gap and its plan meet a condition
abbrev pub WhereServed : (Gap → Plan → Type 0) → Disk → Act → Type 0
WhereServed P disk (serving served plan) = P (gap_of disk served) plan
WhereServed P disk _ = Unit {0}

-- a request that is served has one of its gap's plans
abbrev pub HasPlan : Disk → Act → Type 0
HasPlan disk act = WhereServed (IsPlan disk) disk act

-- a step that serves a request has one of its gap's plans
abbrev pub IsPlanned : Inputs → Medium → Past → Step → Type 0
IsPlanned inputs medium past step = HasPlan inputs.disk step.act

-- all deliveries that are due at a step
abbrev pub due_at : Inputs → Medium → Past → Step → List DeliveryRow
due_at inputs medium past step = due medium.disk (contents_at medium) step.act (wanted (chosen_past inputs past (decision_in step)))

-- the deliveries are some of those that are due, in their order
abbrev pub IsDelivered : Inputs → Medium → Past → Step → Type 0
IsDelivered inputs medium past step = IsSublist (map (λ delivery. delivery.got) step.deliveries) (due_at inputs medium past step)

-- after each delivery stand its findings and the rows of its test
abbrev pub AreFollowed : Medium → Past → List Delivery → Type 0
AreFollowed medium past [] = Unit {0}
AreFollowed medium past (delivery ∷ deliveries) =
    (delivery.after ≡ findings past delivery.got ++ test_rows medium (delivered delivery.got ∷ past) delivery.got.end)
    × AreFollowed medium (with_delivery past delivery) deliveries

-- a step's test gives its rows, and each delivery's
pub record IsTested (inputs : Inputs) (medium : Medium) (past : Past) (step : Step) : Type 0 where
  pub test : step.test ≡ test_rows medium (chosen_past inputs past (decision_in step)) (instant_of (decision_in step))
  pub followed : AreFollowed medium (tested_past inputs past step) step.deliveries

-- each step meets the condition
abbrev pub Throughout : (Inputs → Medium → Past → Step → Type 0) → Inputs → List Step → Type 0
Throughout P inputs steps = AtEach (P inputs (medium_of inputs)) inputs [] steps

-- the run is sound for its inputs, and these are its steps
pub record IsSoundBy (inputs : Inputs) (steps : List Step) (run : Run) : Type 0 where
  -- the foreground is the plain replay's
  pub fore : run.fore ≡ fore_rows inputs
  pub passed_over : run.passed_over ≡ inputs.passed_over
  -- the head can move like this, and the run ends with its last row
  pub possible : IsPossible inputs.disk (timeline inputs.disk run.back run.fore) run.end
  pub end : run.end ≡ run_end (decisions inputs)
  -- the steps stand at the run's decisions, one at each, in their order
  pub decided : decisions_in steps ≡ decisions inputs
  -- the background rows stand step by step, and then those of the tasks
  pub tasks : List BackRow
  pub back : run.back ≡ flat_map (step_rows inputs.disk) steps ++ tasks
  -- each gap has one of its plans
  pub planned : Throughout IsPlanned inputs steps
  -- each delivery is due, and none stands twice
  pub deliveries : Throughout IsDelivered inputs steps
  -- findings, seals, segments and completions stand where the history gives them, and nowhere else
  pub tested : Throughout IsTested inputs steps
  -- the task rows count the blocks' states at the end
  pub counted : tasks ≡ task_rows (history inputs steps)

-- the run is sound for its inputs
pub record IsSound (inputs : Inputs) (run : Run) : Type 0 where
  pub steps : List Step
  pub sound : IsSoundBy inputs steps run
