use Rattle.fb_store.proofs.Words.{◌≡◌, ℕ, ◌^◌, take, nat_cmp, get, held_of, after_taking, EndsBy, sectors_of}
use Rattle.fb_store.specs.Ranges.{AreCut}
use Rattle.fb_store.proofs.sparse.assign_runs.Given as goal

abbrev pub invariant-loop-i : goal.invariant-loop-i
invariant-loop-i l = record {
  past : EndsBy (held_of (get nat_cmp l.fn.ranges)) (10 ^ 12) → EndsBy (held_of (get nat_cmp l.ranges)) (10 ^ 12);
  begins : AreCut (get nat_cmp l.ranges) l.contents;
  so_far : (lbn : ℕ)
      → held_of (get nat_cmp l.ranges) lbn ≡ after_taking (sectors_of (take l.i l.contents)) lbn (held_of (get nat_cmp l.fn.ranges) lbn);
}
