use Rattle.fb_detour.proofs.Words.{ap, arith, late_most, stay}
use Rattle.fb_detour.proofs.Ways.{by_weight}
use Rattle.fb_detour.proofs.steps.most_over.Goals as goal

pub returns-then-sum-known-clause-most : goal.returns-then-sum-known-clause-most
returns-then-sum-known-clause-most c = λ track leave low high is.
    let search = c.args.search.now in
    let late = c.requires.search.late in
    let start = ap (λ t. stay search.disk.now (late_most search.gap.now t) search.wanted.now) late.start in
    let weight = c.greatest_weight_in-weight.ensures.each track low high in
    omega (arith, by_weight search track leave is search.gap.now.now (omega arith), weight, late.limits 0 (omega arith), start)
