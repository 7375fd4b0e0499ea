use Rattle.fb_detour.proofs.Words.{arith, ◌+◌, ◌-◌}
use Rattle.fb_detour.proofs.Missed.{missed-more, missed-so-far}
use Rattle.fb_detour.proofs.missing.misses_enough.Goals as goal

pub overflow_sub-most : goal.overflow_sub-most
overflow_sub-most c = (missed-more c.args.stop.now c.args.latest c.requires.stop
    c.loop-offer.offer-index c.loop-offer.most c.missed-most.result _ c.loop-offer-test.true c.missed-most.ensures c.loop-offer.invariant).0

pub returns-then-is_enough : goal.returns-then-is_enough
returns-then-is_enough c = λ h.
    let stop = c.args.stop.now in
    let next = (missed-more stop c.args.latest c.requires.stop c.loop-offer.offer-index c.loop-offer.most c.missed-most.result _
    c.loop-offer-test.true c.missed-most.ensures c.loop-offer.invariant).1 in (
      c.loop-offer.most - c.missed-most.result,
      omega (arith, next, missed-so-far stop c.args.latest c.requires.stop (c.loop-offer.offer-index + 1)),
      c.is_enough.ensures c.if-is_enough.true,
    )

pub loop-offer-preserved : goal.loop-offer-preserved
loop-offer-preserved c = (missed-more c.args.stop.now c.args.latest c.requires.stop
    c.loop-offer.offer-index c.loop-offer.most c.missed-most.result _ c.loop-offer-test.true c.missed-most.ensures c.loop-offer.invariant).1
