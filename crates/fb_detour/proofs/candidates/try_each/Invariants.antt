use Rattle.fb_detour.proofs.Words.{wanted_of, AreTried, IsFound, IsNoWorseIn}
use Rattle.fb_detour.proofs.candidates.try_each.Given as goal

abbrev pub invariant-loop-offer : goal.invariant-loop-offer
invariant-loop-offer l =
    let search = l.trial.search.now in record {
      scored : IsFound search l.best;
      keeps : IsNoWorseIn search l.best.plan l.initial.best.plan;
      tried : AreTried search.disk.now search.gap.now l.trial.way (wanted_of search.wanted.now) l.trial.sides.now.turning l.offers
          l.offer-index l.best.plan;
    }
