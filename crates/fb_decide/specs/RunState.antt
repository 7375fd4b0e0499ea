-- Where a run stands, as one record.
use Rattle.std.specs.Prelude.{ℕ, List}
use Rattle.fb_units.specs.declared.types.Request.{Request}
use Rattle.fb_decide.specs.declared.deciding.Course.{Course}
use Rattle.fb_decide.specs.declared.deciding.Decider.{Decider}

-- all requests of the run, how far its course has come, the requests pending in its queue, and how many have joined the queue so far
pub record RunState : Type 0 where
  pub requests : List Request
  pub course : Course
  pub pending : List Request
  pub joined : ℕ

-- where a run of these requests stands: its course and its queue; the functions `pending` and `joined` read the queue
abbrev pub state_by : {Queue : Type 0} → (Queue → List Request) → (Queue → ℕ) → List Request → Course → Queue → RunState
state_by pending joined requests course queue =
    record { requests = requests; course = course; pending = pending queue; joined = joined queue }

-- where a decider stands
abbrev pub state_of : {Queue : Type 0} → (Queue → List Request) → (Queue → ℕ) → Decider Queue → RunState
state_of pending joined decider = state_by pending joined decider.requests decider.course decider.queue
