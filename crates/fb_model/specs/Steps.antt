-- The steps of a run, the history that they make, and their rows.
use Rattle.std.specs.Prelude.{ℕ, List, [], ◌∷◌, ◌++◌, length, drop, nat_le, map, filter}
use Rattle.std.specs.List.{flat_map, fold, count_by}
use Rattle.fb_script.specs.declared.call.Action.{Action}
use Rattle.fb_script.specs.declared.call.Action.TheVariants.{Want}
use Rattle.fb_script.specs.declared.call.Call.{Call}
use Rattle.fb_geometry.specs.Shape.{Shape}
use Rattle.fb_sectormap.specs.Cutting.{cutting}
use Rattle.fb_service.specs.declared.disk.Disk.{Disk}
use Rattle.fb_wanted.specs.declared.block.Block.{Block}
use Rattle.fb_wanted.specs.States.{is_delivered}
use Rattle.fb_rows.specs.declared.back.DeliveryRow.{DeliveryRow}
use Rattle.fb_rows.specs.declared.back.BackRow.{BackRow}
use Rattle.fb_rows.specs.declared.back.BackRow.TheVariants.{Gap as BackGap, Idle as BackIdle, Got as BackGot, Task as BackTask}
use Rattle.fb_model.specs.Inputs.{Inputs}
use Rattle.fb_model.specs.Decisions.{Decision, serves, instant_of, Act, serving, idling, ending, decision_of}
use Rattle.fb_model.specs.History.{called, tested, delivered, finished, Past, calls_of, task_numbers, terms_of, is_aborted}
use Rattle.fb_model.specs.Completion.{work, is_complete}
use Rattle.fb_model.specs.Segments.{next_blocks, with_choices}
use Rattle.fb_model.specs.Deliveries.{gap_of}

-- a delivery, and the rows that follow it
pub record Delivery : Type 0 where
  pub got : DeliveryRow
  pub after : List BackRow

-- one step of a run: the rows of the test at its decision, what is done there, and what that delivers
pub record Step : Type 0 where
  pub test : List BackRow
  pub act : Act
  pub deliveries : List Delivery

-- the decision at which a step is made
abbrev pub decision_in : Step → Decision
decision_in step = decision_of step.act

-- the decisions of a run's steps
abbrev pub decisions_in : List Step → List Decision
decisions_in steps = map decision_in steps

-- the blocks that a call registers
abbrev pub blocks_by : Shape → Past → ℕ → Action → List Block
blocks_by disk past task (Want first count) = next_blocks past task (cutting disk (terms_of past task).block first count)
blocks_by disk past task _ = []

-- a call takes effect
abbrev pub take_call : Shape → Past → Call → Past
take_call disk past call = called call (blocks_by disk past call.task call.action) ∷ past

-- the calls of a script that haven't taken effect; its instants don't fall, so those that have are always its first calls
abbrev pub calls_left : List Call → Past → List Call
calls_left calls past = drop (length (calls_of past)) calls

-- the calls that take effect at this decision: those left whose instants have come
abbrev pub calls_due : List Call → Past → ℕ → List Call
calls_due calls past now = filter (λ call. nat_le call.instant now) (calls_left calls past)

-- after the calls and choices of an instant
abbrev pub chosen_by : Shape → List Call → Past → ℕ → Past
chosen_by disk calls past now = with_choices disk (fold (take_call disk) past (calls_due calls past now))

-- after those of a decision
unfoldable pub chosen_past : Inputs → Past → Decision → Past
chosen_past inputs past decision = chosen_by inputs.disk.map inputs.calls past (instant_of decision)

-- and after its test
abbrev pub tested_past : Inputs → Past → Step → Past
tested_past inputs past step = tested step.test ∷ chosen_past inputs past (decision_in step)

-- after a delivery and its test
abbrev pub with_delivery : Past → Delivery → Past
with_delivery past delivery = tested delivery.after ∷ delivered delivery.got ∷ past

-- after the served request has finished
abbrev pub with_finish : Past → Decision → Past
with_finish past (serves served) = finished served.request ∷ past
with_finish past _ = past

-- after the whole step
unfoldable pub past_after : Inputs → Past → Step → Past
past_after inputs past step = with_finish (fold with_delivery (tested_past inputs past step) step.deliveries) (decision_in step)

-- after all steps
abbrev pub history : Inputs → List Step → Past
history inputs steps = fold (past_after inputs) [] steps

-- each step, with what has happened before it, meets the condition
abbrev pub AtEach : (Past → Step → Type 0) → Inputs → Past → List Step → Type 0
AtEach P inputs past [] = Unit {0}
AtEach P inputs past (step ∷ steps) = P past step × AtEach P inputs (past_after inputs past step) steps

-- the gap row of the request that is served, or the idle row
abbrev pub opening : Disk → Act → List BackRow
opening disk (serving served plan) = BackGap (record { name = served.request.name; gap = gap_of disk served; plan = plan }) ∷ []
opening disk (idling dwell) = BackIdle dwell ∷ []
opening disk (ending now) = []

-- the rows of deliveries, each with those that follow it
abbrev pub delivery_rows : List Delivery → List BackRow
delivery_rows deliveries = flat_map (λ delivery. BackGot delivery.got ∷ delivery.after) deliveries

-- a step's rows: those of its test, the gap or idle row, and those of its deliveries
abbrev pub step_rows : Disk → Step → List BackRow
step_rows disk step = step.test ++ opening disk step.act ++ delivery_rows step.deliveries

-- how a task stands
abbrev pub task_row : Past → ℕ → BackRow
task_row past task =
    let now = work past task in
    BackTask (record {
      task = task;
      kind = now.terms.kind;
      registered = length now.blocks;
      delivered = count_by (λ block. is_delivered (now.bare block)) now.blocks;
      aborted = count_by (λ block. is_aborted (now.bare block)) now.blocks;
      complete = is_complete past task;
    })

-- the rows of all tasks, in order of opening
unfoldable pub task_rows : Past → List BackRow
task_rows past = map (task_row past) (task_numbers past)
