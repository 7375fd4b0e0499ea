use Rattle.fb_detour.proofs.Words.{arith, get_or, refl, subst, sym, ◌∙◌, slice_get-get_or, wanted_of, offers-in-turn, bounds, offers-more}
use Rattle.fb_detour.proofs.Words.{way_done, plan_by, IsNoBetter, IsNoWorseIn}
use Rattle.fb_detour.proofs.Found.{itself, through}
use Rattle.fb_detour.proofs.candidates.try_each.Goals as goal

pub try_leave-best-requires-clause-soon : goal.try_leave-best-requires-clause-soon
try_leave-best-requires-clause-soon c =
    let ceilings = c.requires.trial.ceilings in
    omega (arith, ceilings.close, ceilings.some, c.requires.trial.search.gap.early_enough)

pub loop-offer-init : goal.loop-offer-init
loop-offer-init c = record {
  scored = c.try_leave-best.ensures.scored;
  keeps = itself c.args.trial.now.search.now c.try_leave-best.result.plan;
  tried = λ k o less. absurd (omega (arith, less));
}

pub end-end-requires-clause-sweep : goal.end-end-requires-clause-sweep
end-end-requires-clause-sweep c =
    let sides = c.args.trial.now.sides.now in
    let its = c.requires.trial.sides in
    offers-in-turn c.offers-offers.result.now sides.early c.offers-offers.ensures.its c.args.trial.now.search.now.disk.now sides.turning
    its.its.turning its.early c.loop-offer.offer-index _ c.loop-offer-test.true

pub loop-offer-preserved : goal.loop-offer-preserved
loop-offer-preserved c =
    let trial = c.args.trial.now in
    let search = trial.search.now in
    let offers = c.offers-offers.result.now in
    let i = c.loop-offer.offer-index in
    let new = c.try_leave-best-in-loop-offer.result.plan in
    let old = c.loop-offer.best.plan in
    let step = c.try_leave-best-in-loop-offer.ensures in
    let this = subst (IsNoBetter trial new) c.end-end.ensures.value step.tried in record {
      scored = step.scored;
      keeps = through search new old c.try_leave-best.result.plan step.keeps c.loop-offer.invariant.keeps;
      tried = offers-more search.disk.now search.gap.now trial.way (wanted_of search.wanted.now) trial.sides.now.turning offers i old new
          (get_or offers i _) (slice_get-get_or offers i _ c.loop-offer-test.true) step.keeps this c.loop-offer.invariant.tried;
    }

pub returns-clause-tried : goal.returns-clause-tried
returns-clause-tried c = λ leave is.
    let trial = c.args.trial.now in
    let search = trial.search.now in
    let sides = trial.sides.now in
    let its = c.requires.trial.sides.its in
    let begin = c.requires.trial.ceilings.begin in
    let done = c.loop-offer.invariant in
    let first = c.try_leave-best.result.plan in
    let fits = bounds search.disk.now search.gap.now trial.way leave is in
    let arrived = c.try_leave-best.ensures.tried (omega (arith, fits.0, fits.1, begin)) in
    way_done search.disk.now search.gap.now trial.way search.wanted.now sides.turning c.offers-offers.result.now sides.early
    its.turning its.from its.early c.requires.trial.sides.early c.offers-offers.ensures.its
    c.loop-offer.best.plan first (plan_by trial.way sides.turning.from) c.loop-offer.offer-index leave refl c.loop-offer-test.false
    done.keeps (subst (λ t. IsNoWorseIn search first (plan_by trial.way t)) (begin ∙ sym its.from) arrived) done.tried is
