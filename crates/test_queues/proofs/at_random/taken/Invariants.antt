use Rattle.std.proofs.Common.{◌≤◌}
use Rattle.std.specs.List.{AllByRecursion}
use Rattle.fb_model.specs.Accepted.{IsRequestOf}
use Rattle.test_queues.proofs.at_random.taken.Given as goal

abbrev pub invariant-loop-number : goal.invariant-loop-number
invariant-loop-number g l = record {
  joined : g.Q.Queue.joined l.queue ≤ l.number;
  fits : g.Q.Queue.fits l.queue l.disk;
  on_disk : AllByRecursion (IsRequestOf l.disk.map) (g.Q.Queue.pending l.queue);
}
