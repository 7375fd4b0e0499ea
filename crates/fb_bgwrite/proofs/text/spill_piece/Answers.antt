use Rattle.fb_bgwrite.proofs.Words.{arith, line_first, line_last, line_row}
use Rattle.fb_bgwrite.proofs.TextLines.{lines_are, stands_at}
use Rattle.fb_bgwrite.proofs.text.spill_piece.Goals as goal

pub returns-then-k-eq0 : goal.returns-then-k-eq0
returns-then-k-eq0 c =
    let are = lines_are c.args.sector_bytes c.args.bytes c.args.spill.now in
    stands_at c.first_line.result _ c.args.k _ (line_first _ _ _ _ _ are c.args.k c.if-k-eq0.true) c.first_line.ensures

pub returns-then-k-rows : goal.returns-then-k-rows
returns-then-k-rows c =
    let are = lines_are c.args.sector_bytes c.args.bytes c.args.spill.now in
    stands_at c.item_line.result _ c.args.k _
    (line_row _ _ _ _ _ are c.args.k c.get-item.result.now (omega (arith, c.if-k-eq0.false)) c.get-item.ensures) c.item_line.ensures

pub returns-else-k-rows : goal.returns-else-k-rows
returns-else-k-rows c =
    let are = lines_are c.args.sector_bytes c.args.bytes c.args.spill.now in
    stands_at c.spill_last.result _ c.args.k _
    (line_last _ _ _ _ _ are c.args.k (omega (arith, c.requires.line, c.if-k-rows.false, c.len-rows.ensures.value))) c.spill_last.ensures
