use Rattle.fb_bgwrite.proofs.Words.{◌≤◌, ◌-◌, AreTried, IsFound, IsKept, IsPart}
use Rattle.fb_bgwrite.proofs.search.sweep.Given as goal

-- the cylinders before and behind the rest are tried
abbrev pub invariant-loop-swept : goal.invariant-loop-swept
invariant-loop-swept l = record {
  after : l.fn.part.from ≤ l.swept.rest.from;
  within : l.swept.rest.end ≤ l.fn.part.end;
  rest : IsPart l.search l.swept.rest;
  valued : IsFound l.search l.swept.best;
  keeps : IsKept l.search l.fn.best l.swept.best;
  before : AreTried l.search l.swept.best l.fn.part.from l.swept.rest.from;
  behind : AreTried l.search l.swept.best l.swept.rest.end l.fn.part.end;
}

abbrev pub decreases-loop-swept : goal.decreases-loop-swept
decreases-loop-swept l = l.swept.rest.end - l.swept.rest.from
