use Rattle.fb_report.proofs.Words.{refl, codes, gap_fields, back_grammar, IsLine, is_row}
use Rattle.fb_report.proofs.{Fields.in_row, PrintedRows.ended_as}
use Rattle.fb_report.proofs.back_rows.gap_line.Goals as goal

pub returns-clause-form : goal.returns-clause-form
returns-clause-form c =
    let fields = gap_fields c.args.row.now in
    ended_as (IsLine (is_row back_grammar)) c.end.result c.push_gap.new.line (codes "gap") fields c.end.ensures
    (rw (c.in_ok-push_gap.ensures.value, c.in_ok-line.ensures) refl)
    (in_row back_grammar (codes "gap") fields c.in_ok-push_gap.ensures.form)
