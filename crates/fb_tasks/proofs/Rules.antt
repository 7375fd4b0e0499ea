-- What the rules of calls say of a history.
use Rattle.fb_tasks.proofs.Words.{◌≡◌, ℕ, ◌+◌, ◌<◌, ◌≤◌, ◌==◌, ◌&&◌, List, [], ◌∷◌, false, length, length-append, refl}
use Rattle.fb_tasks.proofs.Words.{ap, sym, ◌∙◌, arith, subst, or-false, or_comm, slice_index_or, list_any-append, Shape}
use Rattle.fb_tasks.proofs.Words.{Action, Open, Segment, Call, Plain, MayAsk, Entry, Past, LogSegment, called, calls_of, tasks}
use Rattle.fb_tasks.proofs.Words.{opened_by, is_closed, segments, segment_by, view, Session, Tells, MayTake, take_call, blocks_by}
use Rattle.fb_tasks.proofs.Words.{on_err_weaker, on_ok_weaker}
use Rattle.fb_script.specs.Allowed.{Terms}
use Rattle.fb_script.specs.Allowed as allowed
use Rattle.fb_model.proofs.Histories.{opened_same}

-- a task is closed where one of its calls is a close
pub closed_same : (past : Past) (task : ℕ) → allowed.is_closed (calls_of past) task ≡ is_closed past task
closed_same [] task = refl
closed_same (called call blocks ∷ past) task =
    list_any-append (λ (call : Call). (call.task == task) && allowed.is_close call.action) (calls_of past) (call ∷ [])
    ∙ rw (closed_same past task, or-false) (or_comm (is_closed past task) _)
closed_same (_ ∷ past) task = closed_same past task

pub open_there : (past : Past) (task : ℕ) → allowed.IsOpen (calls_of past) task
    → (task < length (tasks past)) × ((view past task).closed ≡ false)
unfolding view
open_there past task h = (omega (arith, h.opened, ap length (opened_same past)), sym (closed_same past task) ∙ h.not_closed)

-- a task has the terms that the rules speak of
pub terms_there : (past : Past) (task : ℕ) → allowed.terms_of (calls_of past) task ≡ (view past task).terms
unfolding view
terms_there past task = ap (λ ts. slice_index_or ts task (record { kind = Plain; weight = 1; block = 1 })) (opened_same past)

-- there are no more tasks than calls, and no more segments
one_task : (action : Action) (before : List Terms) → length (opened_by action before) ≤ length before + 1
one_task (Open kind weight block) before = omega (arith, length-append before (record { kind = kind; weight = weight; block = block } ∷ []))
one_task _ before = omega arith

pub tasks_few : (past : Past) → length (tasks past) ≤ length (calls_of past)
tasks_few [] = omega arith
tasks_few (called call blocks ∷ past) =
    omega (arith, tasks_few past, one_task call.action (tasks past), length-append (calls_of past) (call ∷ []))
tasks_few (_ ∷ past) = tasks_few past

one_segment : (action : Action) (before : List LogSegment) → length (segment_by action before) ≤ length before + 1
one_segment (Segment first blocks age live) before =
    omega (arith, length-append before (record { number = length before + 1; first = first; blocks = blocks; age = age; live = live } ∷ []))
one_segment _ before = omega arith

pub given_few : (past : Past) (task : ℕ) → length (segments past task) ≤ length (calls_of past)
given_few [] task = omega arith
given_few (called call blocks ∷ past) task =
    grind (arith, given_few past task, one_segment call.action (segments past task), length-append (calls_of past) (call ∷ []))
given_few (_ ∷ past) task = given_few past task

pub room_for_one : (disk : Shape) (past : Past) (sessions : List Session) (held : List Entry) (call : Call)
    → MayTake disk past sessions held call → length sessions < 4294967295
room_for_one disk past sessions held call h = omega (arith, h.few_calls, tasks_few past, h.tells.as_many)

-- a call whose rules want an open session
pub session_there : {disk : Shape} {past : Past} {sessions : List Session} {held : List Entry} {call : Call}
    → (MayAsk disk (calls_of past) call.task call.action → allowed.IsOpen (calls_of past) call.task) → MayTake disk past sessions held call
    → call.task < length sessions
session_there {disk} {past} {sessions} {held} {call} opens h = omega (arith, (open_there past call.task (opens h.asks)).0, h.tells.as_many)

-- what a call needs of its own session, and what comes of it
pub ruleset of_one_session = (room_for_one, session_there, on_ok_weaker, on_err_weaker)

-- a call that registers nothing
pub takes_none : (disk : Shape) (past : Past) (call : Call) (sessions : List Session) (held : List Entry)
    → blocks_by disk past call.task call.action ≡ [] → Tells disk (called call [] ∷ past) sessions held
    → Tells disk (take_call disk past call) sessions held
takes_none disk past call sessions held none h = subst (λ bs. Tells disk (called call bs ∷ past) sessions held) (sym none) h
