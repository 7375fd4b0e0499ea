use Rattle.std.proofs.Common.{arith, sym, subst}
use Rattle.std.proofs.lemmas.Result.{IfOk-weaker}
use Rattle.fb_report.specs.Grammar.{fore_grammar}
use Rattle.fb_report.specs.Printed.{IsLine, is_in_place}
use Rattle.fb_texts.proofs.Counted.{fore_counted}
use Rattle.fb_report.specs.Fore.{fore_lines}
use Rattle.fb_texts.proofs.LineEnds.{fore_end, line_ends}
use Rattle.fb_texts.proofs.lines.ForeLinesLines.line.Goals as goal

pub fore_piece-requires-clause-line : goal.fore_piece-requires-clause-line
fore_piece-requires-clause-line c = let lines = c.args.self.now in
    omega (arith, c.requires.inside, fore_counted lines.sector_bytes lines.bytes lines.run.now)

pub returns-clause-form : goal.returns-clause-form
returns-clause-form c =
    let lines = c.args.self.now in
    IfOk-weaker c.fore_piece.result _ _
    (λ line form can. subst (λ n. IsLine (is_in_place fore_grammar n c.args.index) line.items)
    (sym (fore_counted lines.sector_bytes lines.bytes lines.run.now)) (form can.0 can.1)) c.fore_piece.ensures.form

pub returns-clause-ends : goal.returns-clause-ends
returns-clause-ends c =
    let lines = c.args.self.now in
    line_ends c.fore_piece.result (fore_lines lines.sector_bytes lines.bytes lines.run.now) c.args.index
    (fore_end lines.sector_bytes lines.bytes lines.run.now) c.fore_piece.ensures.value
