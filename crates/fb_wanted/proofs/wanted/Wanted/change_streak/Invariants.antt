use Rattle.fb_wanted.proofs.Words.{◌≤◌, ◌-◌, AreChanged}
use Rattle.fb_wanted.proofs.wanted.Wanted.change_streak.Given as goal

-- the blocks from the streak's first one up to here are changed
abbrev pub invariant-loop-number : goal.invariant-loop-number
invariant-loop-number l = record {
  changed : AreChanged l.task l.change l.fn.streak.number l.number l.initial.self l.self;
  since : l.fn.streak.number ≤ l.number;
}

abbrev pub decreases-loop-number : goal.decreases-loop-number
decreases-loop-number l = l.end - l.number
