use Rattle.fb_bgwrite.proofs.Words.{◌-◌, ◌∙◌, sym, arith, Offer}
use Rattle.fb_detour.proofs.Offers.{all-of}
use Rattle.fb_bgwrite.proofs.Lengths.{none_less, one_more_offer}
use Rattle.fb_bgwrite.proofs.pending.least_on.Goals as goal

pub loop-offer-preserved : goal.loop-offer-preserved
loop-offer-preserved c =
    let l = c.loop-offer in
    record {
      start = omega (arith, l.invariant.start, c.min-least.ensures);
      none = one_more_offer c.offers-offers.result.now l.offer-index _ l.least c.min-least.result c.loop-offer-test.true l.invariant.none
          c.min-least.ensures;
    }

pub returns-clause-each : goal.returns-clause-each
returns-clause-each c =
    let offers = c.offers-offers in
    let least = c.loop-offer.least in
    let all = all-of (λ (o : Offer). least - o.worth) offers.result.now c.loop-offer.offer-index c.loop-offer-test.false in
    none_less least offers.result.now c.args.blocks.now offers.ensures.its (sym all ∙ c.loop-offer.invariant.none)
