use Rattle.fb_queue.proofs.FirstLeast.{IsBest}
use Rattle.fb_queue.proofs.keyed.first_least.Given as goal

abbrev pub invariant-loop-i : goal.invariant-loop-i
invariant-loop-i g l = IsBest (g.P.Policy.key l.disk l.head l.now) l.waiting l.i l.best l.least
