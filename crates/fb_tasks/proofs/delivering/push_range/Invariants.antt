use Rattle.fb_tasks.proofs.Words.{◌≡◌, ◌-◌, ◌++◌, range_with_len}
use Rattle.fb_tasks.proofs.delivering.push_range.Given as goal

abbrev pub invariant-loop-lbn : goal.invariant-loop-lbn
invariant-loop-lbn l = l.lbns.items ≡ l.initial.lbns.items ++ range_with_len l.first (l.lbn - l.first)
