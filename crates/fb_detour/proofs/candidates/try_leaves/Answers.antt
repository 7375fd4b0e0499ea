use Rattle.fb_detour.proofs.Words.{ap, arith, sym, ◌∙◌, AreSidesOf, Dwell}
use Rattle.fb_detour.proofs.candidates.try_leaves.Goals.{After-sides_of-both}
use Rattle.fb_detour.proofs.candidates.try_leaves.Goals as goal

-- the sides of the longest stay are those of the way
own_sides : (c : After-sides_of-both) → AreSidesOf c.args.search.now c.args.way c.sides_of-both.result
own_sides c = record {
  its = rw c.longest_stay-stay.ensures.value at c.sides_of-both.ensures.sides;
  early = c.sides_of-both.ensures.early;
  late = c.sides_of-both.ensures.late;
}

pub sides_of-both-requires-clause-early : goal.sides_of-both-requires-clause-early
sides_of-both-requires-clause-early c =
    let ceilings = c.requires.ceilings in
    let begin = ap (λ (d : Dwell). d.begin) c.longest_stay-stay.ensures.value in
    omega (arith, begin, ceilings.begin, ceilings.close, ceilings.some, c.requires.search.gap.early_enough)

pub try_each-requires-clause-trial : goal.try_each-requires-clause-trial
try_each-requires-clause-trial c =
    let sides = own_sides (goal.at.try_each-requires-clause-trial c).After-sides_of-both in
    record { search = c.requires.search; way = c.requires.way; sides = sides; ceilings = c.requires.ceilings }

pub try_dense-requires-clause-trial : goal.try_dense-requires-clause-trial
try_dense-requires-clause-trial c =
    let sides = own_sides (goal.at.try_dense-requires-clause-trial c).After-sides_of-both in
    record { search = c.requires.search; way = c.requires.way; sides = sides; ceilings = c.requires.ceilings }

pub try_dense-requires-clause-from : goal.try_dense-requires-clause-from
try_dense-requires-clause-from c = c.requires.arrive ∙ sym c.requires.ceilings.begin
