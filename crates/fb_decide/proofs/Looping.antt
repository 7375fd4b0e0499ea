-- A run from its beginning on, one decision after another, with the list of requests as the program has it.
use Rattle.fb_decide.proofs.Words.{◌≡◌, ℕ, ◌+◌, ◌≤◌, ◌^◌, List, [], ◌∷◌, ◌++◌, length, arith, inl, inr, refl, sym, ◌∙◌, Bool, true, false}
use Rattle.fb_decide.proofs.Words.{subst, ap, nat_le, AllByRecursion, fold, cases_Bool, all_append, Request, Shape, Action, Promote, Call}
use Rattle.fb_decide.proofs.Words.{AreAllowed, Key, Inputs, requests, served, behind, IsRequestOf, inputs_of, RunState, IsWaiting, ForeRow}
use Rattle.fb_decide.proofs.Words.{BackRow, medium_of, decisions, Tells, Course, PassagesTakeTime, HasDecided, HasTaskBelow, GoesOn}
use Rattle.fb_decide.proofs.Words.{AreKnown, HasComeTo, IsSound, Past, Step, history, past_after, task_rows, IsCalled}
use Rattle.fb_script.specs.Allowed.{MayAsk}
use Rattle.fb_model.specs.Foreground.{read_of, promoted_from, promoted}
use Rattle.fb_model.specs.Accepted.{IsAccepted}
use Rattle.fb_model.specs.Laws.{ForegroundListsAscend}
use Rattle.fb_model.proofs.Passages.{all_requests}
use Rattle.fb_decide.specs.declared.run_inputs.RunInputs.{RunInputs}
use Rattle.fb_decide.specs.Waiting.{IsForegroundOf}
use Rattle.fb_decide.proofs.Replayed.{in_order}
use Rattle.fb_decide.specs.Deciding.{IsInitial, MayDecide}
use Rattle.fb_decide.specs.Making.{HasMade, HasMadeOne}
use Rattle.fb_decide.proofs.Calling.{called_first}
use Rattle.fb_decide.proofs.Truth.{true_first}
use Rattle.fb_decide.proofs.FittingRows.{step_fits, tasks_fit, fits-told}
use Rattle.fb_decide.proofs.Going.{LeadsOn, decided_more}
use Rattle.fb_script.specs.Allowed as allowed

-- ---- the foreground list of accepted inputs is one that the disk can serve

read_on_disk : (disk : Shape) (before : List Call) (n : ℕ) (call : Call) (action : Action) → call.instant ≤ 10 ^ 15
    → MayAsk disk before call.task action → AllByRecursion (IsRequestOf disk) (read_of n call action)
read_on_disk disk before n call (Promote first count) early may = (record { range = may.1; few = may.2; arrival = early }, tt)
read_on_disk disk before n call _ early may = tt

reads_on_disk : (disk : Shape) (before calls : List Call) (n : ℕ) → AreAllowed disk before calls
    → AllByRecursion (IsRequestOf disk) (promoted_from n calls)
reads_on_disk disk before [] n allowed = tt
reads_on_disk disk before (call ∷ calls) n allowed =
    all_append (IsRequestOf disk) (read_of n call call.action) (promoted_from (n + length (read_of n call call.action)) calls)
    (read_on_disk disk before n call call.action allowed.0 allowed.1)
    (reads_on_disk disk (before ++ call ∷ []) calls (n + length (read_of n call call.action)) allowed.2)

length_behind : (list : List Request) (read : Request) → length (behind list read) ≡ length list + 1
length_behind [] read = omega arith
length_behind (request ∷ list) read = elim (cases_Bool (nat_le request.arrival read.arrival)) [
  | inl first ↦ rw first (omega (arith, length_behind list read))
  | inr later ↦ rw later (omega arith)
]

length_listed : (reads list : List Request) → length (fold behind list reads) ≡ length list + length reads
length_listed [] list = omega arith
length_listed (read ∷ reads) list = omega (arith, length_listed reads (behind list read), length_behind list read)

pub listed : (inputs : Inputs) → ForegroundListsAscend → IsAccepted inputs → IsForegroundOf inputs.disk (requests inputs)
listed inputs lists accepted = record {
  order = in_order (requests inputs) (lists inputs accepted).ascend;
  on_disk = all_requests (IsRequestOf inputs.disk.map) (promoted inputs.calls) inputs.trace accepted.requests
      (reads_on_disk inputs.disk.map [] inputs.calls 1 accepted.calls);
  few = omega (arith, length_listed (promoted inputs.calls) inputs.trace, accepted.few_requests);
}

-- ---- where a run begins

begins : (inputs : Inputs) (course : Course) (waiting : List Request) (joined : ℕ) → AreKnown inputs → IsInitial inputs.latent course
    → waiting ≡ [] → joined ≡ 0
    → GoesOn inputs (record { requests = requests inputs; course = course; pending = waiting; joined = joined }) []
unfolding decisions served
begins inputs course waiting joined known begin none zero_joined = record {
  run = record {
    done = [];
    replayed =
        record { all = rw (none, begin.none_joined, begin.first_head, begin.first_instant) refl; ended = tt; holds = begin.unwritten_yet };
    tells = rw begin.none_wanted (begin.none_opened inputs.disk.map);
    finds = true_first (medium_of inputs) course.store;
    ends_at = sym begin.first_instant;
  };
  decided = rw (none, begin.none_joined, begin.first_head, begin.first_instant) refl;
  called = rw begin.none_called (called_first inputs.disk.map inputs.calls known.accepted.few_blocks);
  arrivals = rw begin.none_joined tt;
  calls_taken = rw begin.none_called tt;
  waits = record {
    within = omega (arith, begin.none_joined);
    counted = zero_joined ∙ sym begin.none_joined;
    arrived = rw none tt;
    on_disk = rw (none, begin.none_joined) known.list.on_disk;
  };
  stands = rw begin.first_head (record { cylinder = inputs.disk.some_cylinders; head = inputs.disk.some_heads });
  soon = omega (arith, begin.first_instant);
  counted = rw (none, begin.none_joined) (omega arith);
}

-- ---- one decision after another, with the list of requests as the program has it

pub known_inputs : (inputs : Inputs) → IsAccepted inputs → ForegroundListsAscend → IsSound inputs.disk.map
    → PassagesTakeTime inputs.disk.map → AreKnown inputs
known_inputs inputs accepted lists sound takes_time = record {
  accepted = accepted;
  list = listed inputs lists accepted;
  rising = (lists inputs accepted).ascend;
  sound = sound;
  takes_time = takes_time;
}

pub made_first : (inputs : Inputs) (state : RunState) → AreKnown inputs → state.requests ≡ requests inputs
    → IsInitial inputs.latent state.course → state.pending ≡ [] → state.joined ≡ 0 → HasMade inputs true [] state
made_first inputs state known requests_are begin none zero_joined = record {
  known = known;
  requests_are = requests_are;
  come_to = subst (λ list. GoesOn inputs (record state { requests = list }) []) (sym requests_are)
      (begins inputs state.course state.pending state.joined known begin none zero_joined);
}

-- so with an equal list of requests
pub made_with : {inputs : Inputs} {more : Bool} {steps : List Step} {state : RunState} (list : List Request) → list ≡ state.requests
    → HasMade inputs more steps state → HasMade inputs more steps (record state { requests = list })
made_with {inputs} {more} {steps} {state} list same =
    subst (λ list. HasMade inputs more steps (record state { requests = list })) (sym same)

pub made_one_with : {inputs : Inputs} {steps : List Step} {more : Bool} {before : RunState} {course : Course} {waiting : List Request}
    {joined : ℕ} (list : List Request) → list ≡ before.requests
    → HasMadeOne inputs steps more (record before { requests = list })
    (record { requests = list; course = course; pending = waiting; joined = joined })
    → HasMadeOne inputs steps more before (record before { course = course; pending = waiting; joined = joined })
made_one_with {inputs} {steps} {more} {before} {course} {waiting} {joined} list same = subst (λ list. HasMadeOne inputs steps more
    (record before { requests = list }) (record { requests = list; course = course; pending = waiting; joined = joined })) same

-- what stands before a decision is as the next one asks
module _ (inputs : Inputs) (steps : List Step) (before : RunState) (made : HasMade inputs true steps before) where
  pub now_may_decide : MayDecide inputs before
  now_may_decide = record {
    requests = subst (IsForegroundOf inputs.disk) (sym made.requests_are) made.known.list;
    script = record { instants = made.known.accepted.instants; allowed = made.known.accepted.calls; few = made.known.accepted.few_calls };
    waiting = made.come_to.waits;
    come = made.come_to.arrivals;
    head = made.come_to.stands;
    now = omega (arith, made.come_to.soon, made.come_to.counted, ap length made.requests_are, made.known.list.few);
  }

  pub now_called : (past : Past) × IsCalled inputs.disk.map inputs.calls past before.course.called
      × Tells inputs.disk.map past before.course.background.sessions before.course.background.blocks
  now_called = (history inputs steps, made.come_to.called, made.come_to.run.tells)

  module _ (goes_on : Bool) (after : RunState) (same : after.requests ≡ before.requests)
      (decided : (past : Past) → IsCalled inputs.disk.map inputs.calls past before.course.called
      → Tells inputs.disk.map past before.course.background.sessions before.course.background.blocks
      → HasDecided inputs past before goes_on after)
      (waits : goes_on ≡ true → IsWaiting inputs.disk after) where
    leads : LeadsOn inputs steps goes_on before after
    leads = decided_more inputs steps goes_on before after made.known made.requests_are made.come_to
        (decided (history inputs steps) made.come_to.called made.come_to.run.tells) waits

    pub made_one : HasMadeOne inputs steps goes_on before after
    made_one = record {
      step = leads.step;
      is_made = leads.stepped.is_made;
      fore = leads.fore;
      back = leads.stepped.rows_after;
      back_fits = step_fits (length (allowed.tasks inputs.calls)) inputs (history inputs steps) leads.step leads.stepped.is_made
          (fits-told inputs.disk.map inputs.calls (past_after inputs (history inputs steps) leads.step) after.course.called
          after.course.background.sessions after.course.background.blocks leads.stepped.tells leads.stepped.called.taken);
      made = record { known = made.known; requests_are = same ∙ made.requests_are; come_to = leads.come_to };
      fewer = leads.fewer;
    }

-- at the end the tasks' rows fit too
pub ended_fits : (inputs : Inputs) (steps : List Step) (state : RunState) → HasMade inputs false steps state
    → AllByRecursion (HasTaskBelow (length (allowed.tasks inputs.calls))) (task_rows (history inputs steps))
ended_fits inputs steps state made = tasks_fit (length (allowed.tasks inputs.calls)) (history inputs steps)
    (fits-told inputs.disk.map inputs.calls (history inputs steps) state.course.called state.course.background.sessions
    state.course.background.blocks made.come_to.run.tells made.come_to.calls_made)

-- rows can be taken between two decisions
abbrev pub without : RunState → List ForeRow → List BackRow → RunState
without state fore rows =
    record state { course = record state.course { fore = fore; background = record state.course.background { rows = rows } } }

come_without : (inputs : Inputs) (more : Bool) (steps : List Step) (state : RunState) (fore : List ForeRow) (rows : List BackRow)
    → HasComeTo inputs more state steps → HasComeTo inputs more (without state fore rows) steps
come_without inputs true steps state fore rows h = record {
  run = record { done = h.run.done; replayed = h.run.replayed; tells = h.run.tells; finds = h.run.finds; ends_at = h.run.ends_at };
  decided = h.decided;
  called = h.called;
  arrivals = h.arrivals;
  calls_taken = h.calls_taken;
  waits = record { within = h.waits.within; counted = h.waits.counted; arrived = h.waits.arrived; on_disk = h.waits.on_disk };
  stands = h.stands;
  soon = h.soon;
  counted = h.counted;
}
come_without inputs false steps state fore rows h = record {
  run = record { done = h.run.done; replayed = h.run.replayed; tells = h.run.tells; finds = h.run.finds; ends_at = h.run.ends_at };
  decided = h.decided;
  calls_made = h.calls_made;
  few = h.few;
  early = h.early;
}

pub made_without : (inputs : Inputs) (more : Bool) (steps : List Step) (state : RunState) (fore : List ForeRow) (rows : List BackRow)
    → HasMade inputs more steps state → HasMade inputs more steps (without state fore rows)
made_without inputs more steps state fore rows h =
    record { known = h.known; requests_are = h.requests_are; come_to = come_without inputs more steps state fore rows h.come_to }

-- of inputs that are the same, a decision makes the same
pub one_by : {held inputs : RunInputs} {key : Key} {more : Bool} {before after : RunState} → held ≡ inputs
    → ((steps : List Step) → HasMade (inputs_of held key) true steps before → HasMadeOne (inputs_of held key) steps more before after)
    → (steps : List Step) → HasMade (inputs_of inputs key) true steps before → HasMadeOne (inputs_of inputs key) steps more before after
one_by {key = key} {more} {before} {after} = subst (λ inputs. (steps : List Step) → HasMade (inputs_of inputs key) true steps before
    → HasMadeOne (inputs_of inputs key) steps more before after)
