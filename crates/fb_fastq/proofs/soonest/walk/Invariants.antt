use Rattle.fb_fastq.proofs.Words.{IsVisit, length}
use Rattle.fb_fastq.proofs.Walks.{IsWalk}
use Rattle.fb_fastq.proofs.soonest.walk.Given as goal

-- the best of those that are seen
abbrev pub invariant-loop-key : goal.invariant-loop-key
invariant-loop-key l = record {
  visit : IsVisit l.disk l.from l.visit;
  walk : IsWalk l.disk l.from l.waiting l.fn.first l.ray l.best l.left;
}

abbrev pub decreases-loop-key : goal.decreases-loop-key
decreases-loop-key l = length l.left
