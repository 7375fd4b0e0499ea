use Rattle.fb_wanted.proofs.Words.{◌-◌, AreChanged}
use Rattle.fb_wanted.proofs.wanted.Wanted.change.Given as goal

-- the task's first blocks are changed
abbrev pub invariant-loop-number : goal.invariant-loop-number
invariant-loop-number l = AreChanged l.task l.change 0 l.number l.initial.self l.self

abbrev pub decreases-loop-number : goal.decreases-loop-number
decreases-loop-number l = l.end - l.number
