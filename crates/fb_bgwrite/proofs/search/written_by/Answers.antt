use Rattle.fb_bgwrite.proofs.Words.{◌∙◌, arith, refl, inl, inr, cases_lt, slice_get-get_or, added, passes_by}
use Rattle.fb_detour.proofs.Offers.{all-of, sum-more}
use Rattle.fb_bgwrite.proofs.Written.{all_last, more_last, none_last}
use Rattle.fb_bgwrite.proofs.search.written_by.Goals as goal

pub with_sweep-written-requires-clause-sweep : goal.with_sweep-written-requires-clause-sweep
with_sweep-written-requires-clause-sweep c = c.requires.sweeps c.loop-offer.offer-index _ c.loop-offer-test.true

pub loop-offer-init : goal.loop-offer-init
loop-offer-init c = record {
  room = omega arith;
  sum = refl;
  last = none_last c.args.turning.now c.args.latest c.args.offers.now _ (λ i less. absurd (omega (arith, less))) c.requires.order;
}

pub loop-offer-preserved : goal.loop-offer-preserved
loop-offer-preserved c =
    let turning = c.args.turning.now in
    let latest = c.args.latest in
    let offers = c.args.offers.now in
    let i = c.loop-offer.offer-index in
    let before = c.loop-offer.written in
    let next = c.with_sweep-written in
    let at = slice_get-get_or offers i _ c.loop-offer-test.true in
    record {
      room = omega (arith, c.loop-offer.invariant.room, next.ensures.small);
      sum = sum-more (added (passes_by turning latest)) offers i _ c.loop-offer-test.true before.sectors next.result.sectors
          c.loop-offer.invariant.sum next.ensures.sectors;
      last = more_last turning latest offers _ _ i before.sectors before.last next.result.sectors next.result.last _ at next.ensures.sectors
          next.ensures.last (λ k less. elim (cases_lt k i) [ inl earlier ↦ inl earlier | inr here ↦ inr (omega (arith, less, here)) ])
          c.loop-offer.invariant.last;
    }

pub returns : goal.returns
returns c =
    let turning = c.args.turning.now in
    let latest = c.args.latest in
    let offers = c.args.offers.now in
    let i = c.loop-offer.offer-index in
    let written = c.loop-offer.written in
    record {
      sectors = c.loop-offer.invariant.sum ∙ all-of (added (passes_by turning latest)) offers i c.loop-offer-test.false;
      last = all_last turning latest offers _ written.sectors written.last (λ k less. omega (arith, less, c.loop-offer-test.false))
          c.loop-offer.invariant.last;
    }
