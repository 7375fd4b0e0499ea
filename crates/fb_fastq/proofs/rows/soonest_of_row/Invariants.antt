use Rattle.fb_fastq.proofs.Words.{◌≡◌, ℕ, ◌<◌, Some, slice_get, Candidate, Waiting, IsBefore, IsPick, RulesOut}
use Rattle.fb_fastq.proofs.rows.soonest_of_row.Given as goal

-- the best of the requests that are seen
abbrev pub invariant-loop-index : goal.invariant-loop-index
invariant-loop-index l = record {
  pick : (limit : Candidate) → IsPick l.disk l.from.track l.from.instant l.rows limit l.fn.pick
      → IsPick l.disk l.from.track l.from.instant l.rows limit l.pick;
  before : IsBefore l.pick.best l.fn.pick.best;
  seen : (k : ℕ) (w : Waiting) → k < l.index → slice_get l.row k ≡ Some w → RulesOut l.disk l.from.track l.from.instant l.pick.best w;
}
