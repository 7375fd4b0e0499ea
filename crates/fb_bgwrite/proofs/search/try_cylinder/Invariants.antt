use Rattle.fb_bgwrite.proofs.Words.{◌<◌, ℕ, IsFound, IsKept, IsTried}
use Rattle.fb_bgwrite.proofs.search.try_cylinder.Given as goal

abbrev pub invariant-loop-head : goal.invariant-loop-head
invariant-loop-head l = record {
  valued : IsFound l.search l.best;
  keeps : IsKept l.search l.initial.best l.best;
  tried : (head : ℕ) → head < l.head → IsTried l.search l.best (record { cylinder = l.part.from; head = head });
}
