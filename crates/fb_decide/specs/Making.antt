-- Which steps of a full run have been made between two decisions, and one more.
use Rattle.std.specs.Prelude.{◌≡◌, ◌≤◌, ◌<◌, ◌+◌, ◌*◌, ◌^◌, ℕ, List, [], ◌∷◌, ◌++◌, Bool, true, false, None, ◌==◌, filter, length, map}
use Rattle.std.specs.Prelude.{take}
use Rattle.std.specs.List.{AllByRecursion, flat_map, last_or}
use Rattle.fb_units.specs.declared.types.Request.{Request}
use Rattle.fb_units.specs.Rising.{IsRising}
use Rattle.fb_geometry.specs.Shape.{IsTrackOf}
use Rattle.fb_geometry.specs.Sound.{IsSound}
use Rattle.fb_script.specs.Allowed as allowed
use Rattle.fb_store.specs.declared.content.Content.{Content}
use Rattle.fb_store.specs.Writes.{unwritten}
use Rattle.fb_store.specs.Ranges.{Holding, content_in}
use Rattle.fb_rows.specs.Tasks.{HasTaskBelow}
use Rattle.fb_rows.specs.declared.fore.ForeRow.{ForeRow}
use Rattle.fb_model.specs.PlainReplay.{Served, plain}
use Rattle.fb_model.specs.Inputs.{Inputs, requests, served}
use Rattle.fb_model.specs.Accepted.{IsAccepted}
use Rattle.fb_model.specs.Content.{Written, Medium, medium_of, writes_of, content_by, fore_row}
use Rattle.fb_model.specs.Decisions.{Decision, serves, instants_of, decisions_from, decisions, run_end}
use Rattle.fb_model.specs.History.{Past}
use Rattle.fb_model.specs.Steps.{Step, decision_in, decisions_in, history, step_rows}
use Rattle.fb_model.specs.SoundRun.{IsPlanned, IsTested}
use Rattle.fb_model.specs.FullRun.{IsBestPlanned, IsAllDelivered}
use Rattle.fb_tasks.specs.Telling.{Tells, calls_of}
use Rattle.fb_decide.specs.declared.deciding.Course.{Course}
use Rattle.fb_decide.specs.RunState.{RunState}
use Rattle.fb_decide.specs.Waiting.{left, IsWaiting, IsForegroundOf}
use Rattle.fb_decide.specs.Calls.{IsCalled}
use Rattle.fb_decide.specs.Standing.{IsTrue}
use Rattle.fb_decide.specs.Deciding.{PassagesTakeTime}

-- ---- what one decision adds

-- a step's plan, deliveries and tests are those of a full run
pub record IsMade (inputs : Inputs) (past : Past) (step : Step) : Type 0 where
  pub planned : IsPlanned inputs (medium_of inputs) past step
  pub best : IsBestPlanned inputs (medium_of inputs) past step
  pub tested : IsTested inputs (medium_of inputs) past step
  pub all : IsAllDelivered inputs (medium_of inputs) past step

-- the row of the request that a decision serves
abbrev pub fore_row_of : Medium → Decision → List ForeRow
fore_row_of medium (serves served) = fore_row medium served ∷ []
fore_row_of medium _ = []

-- ---- what stands between two decisions

-- the writes of these services
abbrev pub all_writes : List Served → List Written
all_writes served = flat_map writes_of served

-- what a sector holds after these services
abbrev pub held_after : List ℕ → List Served → ℕ → Content
held_after latent done lbn = content_by (last_or None (filter (λ write. write.passage.lbn == lbn) (all_writes done))) (unwritten latent lbn)

-- these services are done and those are left; what the first ones wrote is on the disk
pub record Replayed (latent : List ℕ) (whole : List Served) (rest : List Served) (now : ℕ) (holding : Holding)
    (done : List Served) : Type 0 where
  pub all : done ++ rest ≡ whole
  pub ended : AllByRecursion (λ (write : Written). write.passage.end ≤ now) (all_writes done)
  pub holds : (lbn : ℕ) → content_in holding lbn ≡ held_after latent done lbn

-- these steps have been made, and these services are left
pub record HasRun (inputs : Inputs) (rest : List Served) (course : Course) (steps : List Step) : Type 0 where
  pub done : List Served
  pub replayed : Replayed inputs.latent (served inputs) rest course.now course.store done
  pub tells : Tells inputs.disk.map (history inputs steps) course.background.sessions course.background.blocks
  pub finds : IsTrue (medium_of inputs) course.store (history inputs steps)
  pub ends_at : run_end (decisions_in steps) ≡ course.now

-- the plain replay of these requests, from where and when the head stands now
abbrev pub rest_by : Inputs → Course → List Request → List Served
rest_by inputs course waiting = plain (length waiting) inputs.disk inputs.key course.head course.now waiting

-- the services that are left: of the requests that wait, and of those that haven't joined yet
abbrev pub rest_of : Inputs → RunState → List Served
rest_of inputs state = rest_by inputs state.course (left state.requests state.course.joined state.pending)

-- the decisions that are left, if these are the services that are left
abbrev pub decisions_by : Inputs → Course → List Served → List Decision
decisions_by inputs course rest = decisions_from inputs.disk (instants_of inputs) inputs.until course.head course.now rest

-- another decision follows
pub record GoesOn (inputs : Inputs) (state : RunState) (steps : List Step) : Type 0 where
  -- these steps have brought the disk and the background to where they are
  pub run : HasRun inputs (rest_of inputs state) state.course steps
  -- their decisions and those that are left are the run's
  pub decided : decisions_in steps ++ decisions_by inputs state.course (rest_of inputs state) ≡ decisions inputs
  -- the first calls of the script have taken effect, and what all of them can register fits
  pub called : IsCalled inputs.disk.map inputs.calls (history inputs steps) state.course.called
  -- no request has joined before it arrived, and no call has taken effect before its instant
  pub arrivals : AllByRecursion (λ r. r.arrival ≤ state.course.now) (take state.course.joined state.requests)
  pub calls_taken : AllByRecursion (λ c. c.instant ≤ state.course.now) (take state.course.called inputs.calls)
  -- the requests that wait have arrived, and they and the later ones lie on the disk
  pub waits : IsWaiting inputs.disk state
  -- the head is on a track of the disk
  pub stands : IsTrackOf inputs.disk.map state.course.head
  -- arrivals and calls come by 10^15 ns, and no service takes longer than 2048 * (4 * 10^9) ns: of at most 2,048 sectors each is passed
  -- within 4 s, in which the way to its track, the settle, the wait and the passage take at most 1 s each
  pub soon : state.course.now ≤ 10 ^ 15 + length run.done * (2048 * (4 * 10 ^ 9))
  -- each request is served or left
  pub counted : length (left state.requests state.course.joined state.pending) + length run.done ≡ length state.requests

-- the last decision was made
pub record HasEnded (inputs : Inputs) (course : Course) (steps : List Step) : Type 0 where
  pub run : HasRun inputs [] course steps
  pub decided : decisions_in steps ≡ decisions inputs
  pub calls_made : calls_of (history inputs steps) ≡ take course.called inputs.calls
  pub few : length (served inputs) ≤ 10 ^ 6
  -- a million services of the greatest length, and the latest arrival before them, end by then
  pub early : course.now ≤ 9 * 10 ^ 18

-- another decision follows, or the last one was made
abbrev pub HasComeTo : Inputs → Bool → RunState → List Step → Type 0
HasComeTo inputs true state steps = GoesOn inputs state steps
HasComeTo inputs false state steps = HasEnded inputs state.course steps

-- the inputs are accepted, with what follows for their requests and disk
pub record AreKnown (inputs : Inputs) : Type 0 where
  pub accepted : IsAccepted inputs
  pub list : IsForegroundOf inputs.disk (requests inputs)
  pub rising : IsRising (map (λ r. r.arrival) (requests inputs))
  pub sound : IsSound inputs.disk.map
  pub takes_time : PassagesTakeTime inputs.disk.map

-- these steps have been made, and perhaps more follow
pub record HasMade (inputs : Inputs) (more : Bool) (steps : List Step) (state : RunState) : Type 0 where
  pub known : AreKnown inputs
  pub requests_are : state.requests ≡ requests inputs
  pub come_to : HasComeTo inputs more state steps

-- how many decisions are left
abbrev pub decisions_left : Inputs → Bool → RunState → ℕ
decisions_left inputs true state = length (decisions_by inputs state.course (rest_of inputs state))
decisions_left inputs false state = 0

-- one more decision: its rows stand behind those before it
pub record HasMadeOne (inputs : Inputs) (steps : List Step) (more : Bool) (before after : RunState) : Type 0 where
  pub step : Step
  pub is_made : IsMade inputs (history inputs steps) step
  pub fore : after.course.fore ≡ before.course.fore ++ fore_row_of (medium_of inputs) (decision_in step)
  pub back : after.course.background.rows ≡ before.course.background.rows ++ step_rows inputs.disk step
  pub back_fits : AllByRecursion (HasTaskBelow (length (allowed.tasks inputs.calls))) (step_rows inputs.disk step)
  pub made : HasMade inputs more (steps ++ step ∷ []) after
  pub fewer : decisions_left inputs more after < decisions_left inputs true before
