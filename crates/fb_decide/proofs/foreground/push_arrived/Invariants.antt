use Rattle.fb_decide.proofs.Words.{◌≡◌, ◌≤◌, ◌-◌, ◌++◌, length, drop, AllByRecursion}
use Rattle.fb_decide.proofs.foreground.push_arrived.Given as goal

abbrev pub invariant-loop-next : goal.invariant-loop-next
invariant-loop-next l = record {
  within : l.next ≤ length l.trace;
  same : l.requests.items ++ drop l.next l.trace ≡ l.fn.requests.items ++ drop l.fn.next l.trace;
  come : AllByRecursion (λ r. r.arrival ≤ l.now) l.requests.items;
}

abbrev pub decreases-loop-next : goal.decreases-loop-next
decreases-loop-next l = length l.trace - l.next
