use Rattle.fb_report.proofs.Words.{refl, codes, task_fields, back_grammar, AreNames, IsLine, is_row}
use Rattle.fb_report.proofs.{Fields.in_row, PrintedRows.ended_as}
use Rattle.fb_report.proofs.back_rows.task_line.Goals as goal

pub returns-clause-form : goal.returns-clause-form
returns-clause-form c =
    let fields = task_fields c.args.names.now c.args.row.now in
    ended_as (λ line. AreNames c.args.names.now → IsLine (is_row back_grammar) line) c.end.result c.push_task.new.line
    (codes "task") fields c.end.ensures
    (rw (c.in_ok-push_task.ensures.value, c.in_ok-line.ensures) refl)
    (λ named. in_row back_grammar (codes "task") fields (c.in_ok-push_task.ensures.form named))
