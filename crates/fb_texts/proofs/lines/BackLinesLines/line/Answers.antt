use Rattle.std.proofs.Common.{arith, sym, subst}
use Rattle.std.proofs.lemmas.Result.{IfOk-weaker}
use Rattle.fb_report.specs.Grammar.{back_grammar}
use Rattle.fb_report.specs.Printed.{IsLine, is_in_place}
use Rattle.fb_texts.proofs.Counted.{back_counted}
use Rattle.fb_report.specs.Back.{back_lines}
use Rattle.fb_texts.proofs.LineEnds.{back_end, line_ends}
use Rattle.fb_texts.proofs.lines.BackLinesLines.line.Goals as goal

pub back_piece-requires-clause-line : goal.back_piece-requires-clause-line
back_piece-requires-clause-line c = let lines = c.args.self.now in
    omega (arith, c.requires.inside, back_counted lines.names.now lines.sector_bytes lines.bytes lines.run.now)

pub returns-clause-form : goal.returns-clause-form
returns-clause-form c =
    let lines = c.args.self.now in
    IfOk-weaker c.back_piece.result _ _
    (λ line form can. subst (λ n. IsLine (is_in_place back_grammar n c.args.index) line.items)
    (sym (back_counted lines.names.now lines.sector_bytes lines.bytes lines.run.now)) (form can.0 can.1 can.2)) c.back_piece.ensures.form

pub returns-clause-ends : goal.returns-clause-ends
returns-clause-ends c =
    let lines = c.args.self.now in
    line_ends c.back_piece.result (back_lines lines.names.now lines.sector_bytes lines.bytes lines.run.now) c.args.index
    (back_end lines.names.now lines.sector_bytes lines.bytes lines.run.now) c.back_piece.ensures.value
