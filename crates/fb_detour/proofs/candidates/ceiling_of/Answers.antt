use Rattle.fb_detour.proofs.Words.{arith}
use Rattle.fb_detour.proofs.Ways.{from_now}
use Rattle.fb_detour.proofs.candidates.ceiling_of.Goals as goal

pub returns-in-Some-bound_at : goal.returns-in-Some-bound_at
returns-in-Some-bound_at c = λ is.
    let bins = rw c.in-Some.is at c.requires.bins in
    omega (arith, bins.most c.args.leave is c.in-Some-bound_at.ensures.0, c.in-Some-bound_at.ensures.1)

pub ceiling_at-requires-clause-late_begin : goal.ceiling_at-requires-clause-late_begin
ceiling_at-requires-clause-late_begin c =
    let trial = c.args.trial.now in
    let ceilings = c.requires.trial.ceilings in
    omega (arith, ceilings.late.from_now, from_now trial.search.now trial.way, ceilings.begin, c.requires.after)

pub ceiling_at-requires-clause-early_enough : goal.ceiling_at-requires-clause-early_enough
ceiling_at-requires-clause-early_enough c = omega (arith, c.requires.soon, c.requires.trial.ceilings.soon)

pub returns : goal.returns
returns c = λ is. omega (arith, c.ceiling_at.ensures, c.requires.trial.ceilings.most c.args.leave is)
