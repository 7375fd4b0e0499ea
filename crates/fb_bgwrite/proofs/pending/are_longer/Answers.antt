use Rattle.fb_bgwrite.proofs.Words.{◌+◌, ◌-◌, ◌∙◌, sym, arith, Offer}
use Rattle.fb_detour.proofs.Offers.{all-of}
use Rattle.fb_bgwrite.proofs.Lengths.{none_less, one_longer}
use Rattle.fb_bgwrite.proofs.pending.are_longer.Goals as goal

pub loop-offer-preserved : goal.loop-offer-preserved
loop-offer-preserved c = one_longer c.offers-offers.result.now c.loop-offer.offer-index _ c.args.most c.loop-offer-test.true
    c.loop-offer.invariant c.if-offer-most.false

pub returns : goal.returns
returns c = λ all i e at wanted.
    let offers = c.offers-offers in
    let sum = all-of (λ (o : Offer). c.args.most + 1 - o.worth) offers.result.now c.loop-offer.offer-index c.loop-offer-test.false in
    let least = none_less (c.args.most + 1) offers.result.now c.args.blocks.now offers.ensures.its (sym sum ∙ c.loop-offer.invariant)
    i e at wanted in
    omega (arith, least)
