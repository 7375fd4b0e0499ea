use Rattle.fb_geometry.proofs.Words.{ap, arith, get_or, positions, ◌+◌, ◌-◌, ◌∙◌, ◌≡◌}
use Rattle.fb_geometry.proofs.{Slips.has, Marking.next_upto, Marking.next_mark}
use Rattle.fb_geometry.proofs.marks.unmarked_from.Goals as goal

pub overflow_sub-result-2 : goal.overflow_sub-result-2
overflow_sub-result-2 c = let upto = next_upto c.args.marks.now c.requires.ascending c.args.position c.rank-next.result
    c.rank-next.ensures.value in
    let one = next_mark c.args.marks.now c.requires.ascending c.args.position c.rank-next.result c.rank-next.ensures.value
    (record { cylinder = 0; position = 0 }) (omega arith) in
    omega (arith, one.0)

pub returns-clause-free : goal.returns-clause-free
returns-clause-free c = λ q from below. let upto = next_upto c.args.marks.now c.requires.ascending c.args.position c.rank-next.result
    c.rank-next.ensures.value in
    let one = next_mark c.args.marks.now c.requires.ascending c.args.position c.rank-next.result c.rank-next.ensures.value
    (record { cylinder = 0; position = 0 }) (omega arith) in
    one.1 q from (omega (arith, one.0))

pub returns-clause-ends : goal.returns-clause-ends
returns-clause-ends c = λ less. let upto = next_upto c.args.marks.now c.requires.ascending c.args.position c.rank-next.result
    c.rank-next.ensures.value in
    let next = (get_or c.args.marks.now c.rank-next.result (record { cylinder = 0; position = 0 })).position in
    let one = next_mark c.args.marks.now c.requires.ascending c.args.position c.rank-next.result c.rank-next.ensures.value
    (record { cylinder = 0; position = 0 }) (omega arith) in
    let same : c.args.position + (c.min.result - c.args.position) ≡ next = omega (arith, one.0) in
    ap (has (positions c.args.marks.now)) same ∙ one.3
