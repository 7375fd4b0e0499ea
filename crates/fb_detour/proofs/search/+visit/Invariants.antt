use Rattle.fb_detour.proofs.Words.{◌<◌, IsFound, IsNoWorseIn}
use Rattle.fb_detour.proofs.Keys.{AreDone, IsAmong}
use Rattle.fb_detour.proofs.search.+visit.Given as goal

abbrev pub invariant-loop-key : goal.invariant-loop-key
invariant-loop-key l = record {
  scored : IsFound l.search l.best;
  keeps : IsNoWorseIn l.search l.best.plan l.initial.best.plan;
  done : AreDone l.search l.from l.end l.width l.keys l.best.plan l.key;
  among : 0 < l.key → IsAmong l.keys l.key;
}

abbrev pub decreases-loop-key : goal.decreases-loop-key
decreases-loop-key l = l.key

abbrev pub decreases-visit : goal.decreases-visit
decreases-visit l = l.range.level
