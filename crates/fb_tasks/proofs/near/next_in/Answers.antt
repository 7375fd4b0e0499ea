use Rattle.std.proofs.Common.{◌≡◌, subst, inl, inr, arith, false, IfSome}
use Rattle.std.specs.Prelude.{slice_get}
use Rattle.std.specs.BTreeMap.Range.{IsLeBy}
use Rattle.std.specs.BTreeSet.{contains}
use Rattle.std.specs.Ordering.{is_gt}
use Rattle.std.proofs.lemmas.Bool.{cases_Bool}
use Rattle.std.proofs.lemmas.Option.{IfSome_then}
use Rattle.fb_tasks.specs.Nearby.{pair_cmp}
use Rattle.fb_tasks.proofs.Nearby.{from_pair, seconds_rise, first_stays}
use Rattle.fb_tasks.proofs.near.next_in.Goals as goal

pub returns-then-pair-chunk-clause-first : goal.returns-then-pair-chunk-clause-first
returns-then-pair-chunk-clause-first c = λ j from lt. elim (cases_Bool (contains pair_cmp c.args.near.now (c.args.chunk, j))) [
  | inl has ↦
      let first = (c.range.ensures.in_range tt).2 (c.args.chunk, j) (from_pair c.args.chunk c.args.from j from, tt) has in
      let up = subst (λ ks. IfSome (slice_get ks 0) (λ k. IsLeBy pair_cmp k (c.args.chunk, j))) c.in-Some.ensures.steps first in
      absurd (omega (arith, lt, seconds_rise c.args.chunk c.in-Some.pair.now.0 c.in-Some.pair.now.1 j up c.if-pair-chunk.true))
  | inr none ↦ none
]

pub returns-else-pair-chunk-clause-none : goal.returns-else-pair-chunk-clause-none
returns-else-pair-chunk-clause-none c = λ j from. elim (cases_Bool (contains pair_cmp c.args.near.now (c.args.chunk, j))) [
  | inl has ↦
      let first = (c.range.ensures.in_range tt).2 (c.args.chunk, j) (from_pair c.args.chunk c.args.from j from, tt) has in
      let down = subst (λ ks. IfSome (slice_get ks 0) (λ k. IsLeBy pair_cmp k (c.args.chunk, j))) c.in-Some.ensures.steps first in
      let begin = subst (λ ks. IfSome (slice_get ks 0) (λ k. is_gt (pair_cmp (c.args.chunk, c.args.from) k) ≡ false))
      c.in-Some.ensures.steps (IfSome_then (slice_get c.range.result 0) (c.range.ensures.in_range tt).1 (λ k x. x.0.0)) in
      absurd (c.if-pair-chunk.false (first_stays c.args.chunk c.args.from c.in-Some.pair.now.0 c.in-Some.pair.now.1 j begin down))
  | inr none ↦ none
]

pub returns-in-None-clause-none : goal.returns-in-None-clause-none
returns-in-None-clause-none c = λ j from. (c.range.ensures.in_range tt).5 c.in-None.ensures.steps.0 (c.args.chunk, j)
    (from_pair c.args.chunk c.args.from j from, tt)
