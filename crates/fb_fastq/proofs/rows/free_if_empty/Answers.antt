use Rattle.fb_fastq.proofs.Words.{nil_from_length, ◌≡◌, ◌∙◌, Some, slice_get, length, refl, sym, ap, arith, nat_tests, slice_get_read, Row}
use Rattle.fb_fastq.proofs.{InRows.same_row_of, OneMore.set_same, OneMore.same_rows, OneMore.occupied_less}
use Rattle.fb_fastq.proofs.rows.free_if_empty.Goals.{After-remove}
use Rattle.fb_fastq.proofs.rows.free_if_empty.Goals as goal

-- the row is as empty as a new one
none_left : (c : After-remove)
    → slice_get c.args.rows.now.items c.args.number ≡ Some c.index_mut.result.now × (c.new.result.items ≡ c.index_mut.result.now.items)
none_left c =
    let rows = c.args.rows.now.items in
    let there = slice_get_read rows (length rows) c.args.number c.index_mut.result.now refl c.requires.there c.index_mut.ensures.value in
    let seen = slice_get_read rows (length rows) c.args.number c.index.result.now refl c.requires.there c.index.ensures in
    let none : length c.index.result.now.items ≡ 0 = grind (arith, nat_tests) in (
      there,
      c.new.ensures.items
          ∙ sym (nil_from_length c.index_mut.result.now.items
          (ap (λ (r : Row). length r.items) (same_row_of rows c.args.number c.index_mut.result.now c.index.result.now there seen) ∙ none)),
    )

pub returns-then-is_empty-clause-same : goal.returns-then-is_empty-clause-same
returns-then-is_empty-clause-same c =
    let none = none_left c in
    set_same c.args.rows.now.items c.args.number c.index_mut.result.now c.new.result none.0 none.1

pub returns-then-is_empty-clause-rows : goal.returns-then-is_empty-clause-rows
returns-then-is_empty-clause-rows c =
    let none = none_left c in
    same_rows c.args.rows.now.items c.args.number c.index_mut.result.now c.new.result none.0 none.1

pub returns-then-is_empty-clause-occupied : goal.returns-then-is_empty-clause-occupied
returns-then-is_empty-clause-occupied c = λ are. occupied_less c.args.occupied.now c.remove.new.self c.args.rows.now.items c.args.number
    c.new.result c.new.ensures.items c.remove.ensures.updates.2 are
