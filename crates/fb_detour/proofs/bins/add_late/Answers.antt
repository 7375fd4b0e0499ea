use Rattle.fb_detour.proofs.Words.{ap, arith, refl, ◌+◌, ◌-◌, late_gain, passes_by, turned_to, Offer, bin_at, sum_of_first}
use Rattle.fb_detour.proofs.Binned.{bins-small, most-more, no_sum, worth-more}
use Rattle.fb_detour.proofs.Offers.{all-of}
use Rattle.fb_detour.proofs.bins.add_late.Goals as goal

pub loop-offer-init : goal.loop-offer-init
loop-offer-init c = record {
  most = λ leave after noted. omega arith;
  small = λ n less. omega (arith, ap (sum_of_first n) c.requires.empty, no_sum c.args.leaves.now.grid.bins n);
}

pub add_at-requires : goal.add_at-requires
add_at-requires c = record {
  room = λ k less.
      bins-small c.args.target.now c.loop-offer.offer-index k c.args.leaves.now.grid.bins c.loop-offer.bins
      c.requires.target.ready c.loop-offer.invariant.small (omega (arith, less, c.requires.whole));
}

pub loop-offer-preserved : goal.loop-offer-preserved
loop-offer-preserved c =
    let stop = c.args.target.now in
    let turning = stop.turning in
    let gap = c.args.search.now.gap.now in
    let leaves = c.args.leaves.now in
    let grid = leaves.grid in
    let offers = stop.offers.now in
    let i = c.loop-offer.offer-index in
    let within = c.loop-offer-test.true in
    let old = c.loop-offer.bins in
    let new = c.add_at.new.numbers in
    let k = c.too_late_for-k.result in record {
      most = λ leave after noted.
          let n = grid.bins - 1 - bin_at grid leave + 1 in
          most-more (late_gain turning gap (leave + leaves.move_on)) offers i _ within old new k n
          (c.add_at.ensures n (omega (arith, c.requires.whole, c.requires.leaves.grid.some)))
          (passes_by (turned_to turning (leave + leaves.move_on)) gap.deadline) refl
          (λ by. let less = c.too_late_for-k.ensures leave after noted by in omega (arith, less))
          (c.loop-offer.invariant.most leave after noted);
      small = λ n less.
          worth-more (λ (offer : Offer). offer.worth) offers i _ within old new k n
          (c.add_at.ensures n (omega (arith, less, c.requires.whole))) (c.loop-offer.invariant.small n less);
    }

pub add_up-requires : goal.add_up-requires
add_up-requires c = record {
  room = λ k less.
      bins-small c.args.target.now c.loop-offer.offer-index k c.args.leaves.now.grid.bins c.loop-offer.bins
      c.requires.target.ready c.loop-offer.invariant.small (omega (arith, less, c.requires.whole));
}

pub returns : goal.returns
returns c =
    let stop = c.args.target.now in
    let leaves = c.args.leaves.now in
    let grid = leaves.grid in
    let i = c.loop-offer.offer-index in
    let so_far = c.loop-offer.invariant in record {
      most = λ leave after noted.
          let k = grid.bins - 1 - bin_at grid leave in
          let all = all-of (late_gain stop.turning c.args.search.now.gap.now (leave + leaves.move_on)) stop.offers.now i
          c.loop-offer-test.false in
          omega (
            arith,
            all,
            so_far.most leave after noted,
            c.add_up.ensures k (omega (arith, c.requires.whole, c.requires.leaves.grid.some)),
          );
      table = record {
        whole = omega (arith, c.requires.whole);
        small = λ k less.
            let small = bins-small stop i k grid.bins c.loop-offer.bins c.requires.target.ready so_far.small less in
            omega (arith, small, c.add_up.ensures k (omega (arith, less, c.requires.whole)));
      };
    }
