use Rattle.fb_detour.proofs.Words.{ℕ, ◌<◌, IsNoWorseThanTrack, IsFound, IsNoWorseIn}
use Rattle.fb_detour.proofs.search.try_cylinder.Given as goal

abbrev pub invariant-loop-head : goal.invariant-loop-head
invariant-loop-head l = record {
  scored : IsFound l.search l.best;
  keeps : IsNoWorseIn l.search l.best.plan l.initial.best.plan;
  tried : (head : ℕ) → head < l.head → IsNoWorseThanTrack l.search l.best.plan (record { cylinder = l.cylinder; head = head });
}
