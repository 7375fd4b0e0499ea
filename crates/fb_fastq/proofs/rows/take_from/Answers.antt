use Rattle.fb_fastq.proofs.Words.{◌<◌, sym, subst, arith, length-set, IfSome, all_of_rows, IsMore, set}
use Rattle.fb_fastq.proofs.OneMore.{taken_from, set_less, less_rows, length_more, position_within, occupied_set}
use Rattle.fb_fastq.proofs.rows.take_from.Goals as goal

pub returns-clause-less : goal.returns-clause-less
returns-clause-less c =
    let rows = c.args.rows.now.items in
    let row = c.index_mut.result.now in
    let new = c.remove.new.self in
    let taken = taken_from rows c.args.position row new c.requires.there c.index_mut.ensures.value c.remove.ensures.items in
    subst (λ o. IfSome o (λ w. IsMore w (all_of_rows (set rows c.args.position.row new)) (all_of_rows rows))) (sym taken.at)
    (set_less taken.w rows c.args.position.row row new taken.there taken.less)

pub returns-clause-rows : goal.returns-clause-rows
returns-clause-rows c =
    let taken = taken_from c.args.rows.now.items c.args.position c.index_mut.result.now c.remove.new.self c.requires.there
    c.index_mut.ensures.value c.remove.ensures.items in
    less_rows c.args.rows.now.items c.args.position.row c.index_mut.result.now c.remove.new.self taken.there taken.w taken.less

pub returns-clause-there : goal.returns-clause-there
returns-clause-there c = subst (λ n. c.args.position.row < n) (sym (length-set c.args.rows.now.items c.args.position.row c.remove.new.self))
    (position_within c.args.rows.now.items c.args.position c.requires.there)

pub returns-clause-occupied : goal.returns-clause-occupied
returns-clause-occupied c = λ occupied are.
    let row = c.index_mut.result.now in
    let new = c.remove.new.self in
    let taken = taken_from c.args.rows.now.items c.args.position row new c.requires.there c.index_mut.ensures.value c.remove.ensures.items
    in
    occupied_set occupied c.args.rows.now.items c.args.position.row new
    (λ some. are c.args.position.row row taken.there (omega (arith, length_more taken.w new.items row.items taken.less))) are
