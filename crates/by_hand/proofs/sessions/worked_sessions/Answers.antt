use Rattle.by_hand.proofs.FullRuns.{abort_while_waiting_is_full, abort_too_late_is_full, suspended_is_full, closed_is_full}
use Rattle.by_hand.proofs.sessions.worked_sessions.Goals as goal

pub returns : goal.returns
returns c = record {
  abort_while_waiting = abort_while_waiting_is_full;
  abort_too_late = abort_too_late_is_full;
  suspended = suspended_is_full;
  closed = closed_is_full;
}
