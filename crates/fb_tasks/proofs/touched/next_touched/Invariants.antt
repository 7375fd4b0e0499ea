use Rattle.fb_tasks.proofs.Words.{◌≡◌, ℕ, ◌<◌, ◌≤◌, ◌-◌, false, Some, length, slice_get, Session}
use Rattle.fb_tasks.proofs.touched.next_touched.Given as goal

-- no session before this one was touched
abbrev pub invariant-loop-task : goal.invariant-loop-task
invariant-loop-task l = record {
  from : l.initial.from ≤ l.from;
  first : (k : ℕ) (session : Session) → l.initial.from ≤ k → k < l.from → slice_get l.sessions k ≡ Some session → session.touched ≡ false;
}

abbrev pub decreases-loop-task : goal.decreases-loop-task
decreases-loop-task l = length l.sessions - l.from
