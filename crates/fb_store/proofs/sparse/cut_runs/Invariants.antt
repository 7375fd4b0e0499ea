use Rattle.fb_store.proofs.Words.{◌≡◌, ℕ, ◌+◌, ◌<◌, Some, slice_get, nat_cmp, get, ContainsKey, ContentRun, held_of}
use Rattle.fb_store.proofs.sparse.cut_runs.Given as goal

abbrev pub invariant-loop-i : goal.invariant-loop-i
invariant-loop-i l = record {
  same : (lbn : ℕ) → held_of (get nat_cmp l.ranges) lbn ≡ held_of (get nat_cmp l.fn.ranges) lbn;
  begins : (j : ℕ) (run : ContentRun) → j < l.i → slice_get l.contents j ≡ Some run
      → ContainsKey nat_cmp l.ranges run.first × ContainsKey nat_cmp l.ranges (run.first + run.count);
}
