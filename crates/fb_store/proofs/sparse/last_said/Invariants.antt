use Rattle.fb_store.proofs.Words.{◌≡◌, ℕ, None, ◌^◌, take, nat_cmp, get, held_of, after_taking, EndsBy, sectors_of}
use Rattle.fb_store.proofs.sparse.last_said.Given as goal

abbrev pub invariant-loop-i : goal.invariant-loop-i
invariant-loop-i l = record {
  past : EndsBy (held_of (get nat_cmp l.ranges)) (10 ^ 12);
  so_far : (lbn : ℕ) → held_of (get nat_cmp l.ranges) lbn ≡ after_taking (sectors_of (take l.i l.contents)) lbn None;
}
