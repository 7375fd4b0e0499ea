use Rattle.fb_detour.proofs.Words.{IsFound, IsNoWorseIn}
use Rattle.fb_detour.proofs.candidates.try_fullest.Given as goal

abbrev pub invariant-loop-offer : goal.invariant-loop-offer
invariant-loop-offer l =
    let search = l.trial.search.now in record {
      scored : IsFound search l.best;
      keeps : IsNoWorseIn search l.best.plan l.initial.best.plan;
    }
