use Rattle.fb_detour.proofs.Words.{ap, arith, refl, ◌+◌, ◌≤◌, nat_tests, added, passes_by, Offer, bin_at, sum_of_first}
use Rattle.fb_detour.proofs.Binned.{bins-small, most-more, no_earlier_bin, no_sum, worth-more}
use Rattle.fb_detour.proofs.Offers.{all-of}
use Rattle.fb_detour.proofs.bins.add_early.Goals as goal

pub loop-offer-init : goal.loop-offer-init
loop-offer-init c = record {
  most = λ leave. omega arith;
  small = λ n less. omega (arith, ap (sum_of_first n) c.requires.empty, no_sum c.args.grid.bins n);
}

pub add_at-requires : goal.add_at-requires
add_at-requires c = record {
  room = λ k less.
      bins-small c.args.stop.now c.loop-offer.offer-index k c.args.grid.bins c.loop-offer.bins c.requires.stop
      c.loop-offer.invariant.small (omega (arith, less, c.requires.whole));
}

pub loop-offer-preserved : goal.loop-offer-preserved
loop-offer-preserved c =
    let stop = c.args.stop.now in
    let turning = stop.turning in
    let grid = c.args.grid in
    let offers = stop.offers.now in
    let i = c.loop-offer.offer-index in
    let within = c.loop-offer-test.true in
    let old = c.loop-offer.bins in
    let new = c.add_at.new.numbers in
    let k = c.bin_at-k.result in record {
      most = λ leave.
          let n = bin_at grid leave + 1 in
          most-more (added (passes_by turning leave)) offers i _ within old new k n
          (c.add_at.ensures n (omega (arith, c.requires.whole, c.requires.grid.some)))
          (passes_by turning leave) refl
          (λ by.
          let end = c.end-end.ensures.value in
          let le : c.end-end.result ≤ leave = grind (arith, nat_tests) in
          omega (arith, no_earlier_bin grid c.end-end.result leave le, c.bin_at-k.ensures.value))
          (c.loop-offer.invariant.most leave);
      small = λ n less.
          worth-more (λ (offer : Offer). offer.worth) offers i _ within old new k n
          (c.add_at.ensures n (omega (arith, less, c.requires.whole))) (c.loop-offer.invariant.small n less);
    }

pub add_up-requires : goal.add_up-requires
add_up-requires c = record {
  room = λ k less.
      bins-small c.args.stop.now c.loop-offer.offer-index k c.args.grid.bins c.loop-offer.bins c.requires.stop
      c.loop-offer.invariant.small (omega (arith, less, c.requires.whole));
}

pub returns : goal.returns
returns c =
    let stop = c.args.stop.now in
    let grid = c.args.grid in
    let i = c.loop-offer.offer-index in
    let so_far = c.loop-offer.invariant in record {
      most = λ leave.
          let k = bin_at grid leave in
          let all = all-of (added (passes_by stop.turning leave)) stop.offers.now i c.loop-offer-test.false in
          omega (arith, all, so_far.most leave, c.add_up.ensures k (omega (arith, c.requires.whole, c.requires.grid.some)));
      table = record {
        whole = omega (arith, c.requires.whole);
        small = λ k less.
            let small = bins-small stop i k grid.bins c.loop-offer.bins c.requires.stop so_far.small less in
            omega (arith, small, c.add_up.ensures k (omega (arith, less, c.requires.whole)));
      };
    }
