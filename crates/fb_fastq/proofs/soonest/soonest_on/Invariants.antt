use Rattle.fb_fastq.proofs.Words.{IfSome, IsVisit, IsCandidate, IsBefore, IsReached, ComesNoLaterUntil}
use Rattle.fb_fastq.proofs.Breaks.{left_of}
use Rattle.fb_fastq.proofs.soonest.soonest_on.Given as goal

-- the best of the walks so far
abbrev pub invariant-loop-walked : goal.invariant-loop-walked
invariant-loop-walked l = record {
  found : IsCandidate l.disk l.from.track l.from.instant l.waiting l.walked.best;
  before : IsBefore l.walked.best l.fn.first;
  full : IfSome l.walked.full (IsVisit l.disk l.from);
  reached : IfSome l.walked.full (λ visit. IsReached l.ray.side l.ray.start visit.lane.start);
  seen : ComesNoLaterUntil l.disk l.from.track l.from.instant l.waiting l.walked.best l.ray l.walked.full;
}

abbrev pub decreases-loop-walked : goal.decreases-loop-walked
decreases-loop-walked l = left_of l.ray.side l.walked.full
