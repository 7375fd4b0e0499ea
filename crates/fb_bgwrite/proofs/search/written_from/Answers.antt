use Rattle.fb_plan.specs.Turns.{begin_of}
use Rattle.fb_bgwrite.proofs.Words.{◌≡◌, ℕ, ◌-◌, ◌<◌, ◌≤◌, Some, slice_get, arith, inl, inr, cases_lt, slice_get-get_or}
use Rattle.fb_bgwrite.proofs.Words.{slice_index_or, added, passes_by}
use Rattle.fb_bgwrite.proofs.ByAngle.{adds_none, as_at, as_offer, all_written, none_added, no_spot, rest_late, sum_step, swept_in}
use Rattle.fb_bgwrite.specs.declared.spots.Spot.{Spot}
use Rattle.fb_bgwrite.proofs.Written.{more_last, others_late}
use Rattle.fb_bgwrite.proofs.search.written_from.Goals as goal

pub loop-i-init : goal.loop-i-init
loop-i-init c =
    let behind = c.requires.behind in
    record {
      sum = omega (arith, behind.sum);
      is_last = others_late _ _ _ _ _ _ _ (λ k offer was at. elim was [
        | inl inside ↦ absurd (omega (arith, inside.0, inside.1))
        | inr later ↦ inl later
      ]) behind.is_last;
      small = omega (arith, behind.small);
    }

pub begin-requires-clause-sweep : goal.begin-requires-clause-sweep
begin-requires-clause-sweep c =
    let at = slice_get-get_or c.args.spots.now c.loop-i.i no_spot (omega (arith, c.loop-i-test.true, c.requires.within)) in
    swept_in c.args.turning.now.rotation c.args.spots.now c.loop-i.i _ at c.requires.sweeps

pub returns-then-latest-begin : goal.returns-then-latest-begin
returns-then-latest-begin c =
    let turning = c.args.turning.now in
    let latest = c.args.latest in
    let spots = c.args.spots.now in
    let l = c.loop-i in
    let here = slice_index_or spots l.i no_spot in
    let at = slice_get-get_or spots l.i no_spot (omega (arith, c.loop-i-test.true, c.requires.within)) in
    let late : (k : ℕ) (spot : Spot) → l.i ≤ k → k < c.args.end → slice_get spots k ≡ Some spot
    → latest < begin_of turning.rotation spot.sweep turning.from = λ k spot low high there. omega (
      arith,
      c.requires.turns l.i k here spot l.auto.i low high at there,
      c.begin.ensures.value,
      c.if-latest-begin.true,
    ) in
    let rest = none_added (added (passes_by turning latest)) spots l.i (c.args.end - l.i)
    (omega (arith, c.loop-i-test.true, c.requires.within))
    (λ k spot low high there. adds_none turning latest spot (late k spot low (omega (arith, high, c.loop-i-test.true)) there)) in
    rest_late turning latest spots c.args.from c.args.end l.i l.written.sectors l.written.last c.loop-i-test.true
    l.invariant.sum l.invariant.is_last l.invariant.small rest late

pub with_sweep-written-requires-clause-sweep : goal.with_sweep-written-requires-clause-sweep
with_sweep-written-requires-clause-sweep c =
    let at = slice_get-get_or c.args.spots.now c.loop-i.i no_spot (omega (arith, c.loop-i-test.true, c.requires.within)) in
    swept_in c.args.turning.now.rotation c.args.spots.now c.loop-i.i _ at c.requires.sweeps

pub with_sweep-written-requires-clause-room : goal.with_sweep-written-requires-clause-room
with_sweep-written-requires-clause-room c = omega (arith, c.loop-i.invariant.small, c.loop-i-test.true, c.requires.few)

pub loop-i-preserved : goal.loop-i-preserved
loop-i-preserved c =
    let turning = c.args.turning.now in
    let latest = c.args.latest in
    let spots = c.args.spots.now in
    let l = c.loop-i in
    let next = c.with_sweep-written in
    let here = slice_index_or spots l.i no_spot in
    let at = slice_get-get_or spots l.i no_spot (omega (arith, c.loop-i-test.true, c.requires.within)) in
    record {
      sum = omega (arith, l.invariant.sum, next.ensures.sectors, sum_step spots l.i here at (added (passes_by turning latest)));
      is_last = more_last turning latest _ _ _ l.i l.written.sectors l.written.last next.result.sectors next.result.last (as_offer here)
          (as_at spots l.i here at) next.ensures.sectors next.ensures.last
          (λ k was. elim was [
            | inl inside ↦ elim (cases_lt k l.i) [
              | inl before ↦ inl (inl (inside.0, before))
              | inr same ↦ inr (omega (arith, same, inside.1))
            ]
            | inr behind ↦ inl (inr behind)
          ]) l.invariant.is_last;
      small = omega (arith, l.invariant.small, next.ensures.small);
    }

pub returns : goal.returns
returns c =
    let l = c.loop-i in
    let end : l.i ≡ c.args.end = omega (arith, c.loop-i-test.false, l.auto.i-end c.requires.order) in
    all_written c.args.turning.now c.args.latest c.args.spots.now c.args.from c.args.end l.i l.written.sectors l.written.last end
    l.invariant.sum l.invariant.is_last l.invariant.small
