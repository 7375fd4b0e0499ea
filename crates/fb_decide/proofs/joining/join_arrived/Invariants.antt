use Rattle.fb_decide.proofs.Words.{◌≡◌, ◌≤◌, ◌-◌, length, take, AllByRecursion, Disk, left}
use Rattle.fb_decide.proofs.joining.join_arrived.Given as goal

abbrev pub invariant-loop-next : goal.invariant-loop-next
invariant-loop-next g l = record {
  within : l.next ≤ length l.requests;
  fits : (disk : Disk) → g.Q.Queue.fits l.fn.queue disk → g.Q.Queue.fits l.queue disk;
  counted : g.Q.Queue.joined l.queue ≡ l.next;
  same : left l.requests l.next (g.Q.Queue.pending l.queue) ≡ left l.requests l.fn.next (g.Q.Queue.pending l.fn.queue);
  arrived : AllByRecursion (λ r. r.arrival ≤ l.now) (g.Q.Queue.pending l.queue);
  come : AllByRecursion (λ r. r.arrival ≤ l.now) (take l.next l.requests);
}

abbrev pub decreases-loop-next : goal.decreases-loop-next
decreases-loop-next g l = length l.requests - l.next
