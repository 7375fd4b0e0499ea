use Rattle.fb_tasks.proofs.Words.{◌≤◌, ◌-◌, length}
use Rattle.fb_tasks.proofs.Written.{AreRewanted}
use Rattle.fb_tasks.proofs.sessions.Sessions.rewant_near.Given as goal

-- the tasks before this one were looked at
abbrev pub invariant-loop-task : goal.invariant-loop-task
invariant-loop-task l =
    record { within : l.task ≤ length l.self; rewanted : AreRewanted l.first l.count l.self l.task l.initial.wanted l.wanted }

abbrev pub decreases-loop-task : goal.decreases-loop-task
decreases-loop-task l = length l.self - l.task
