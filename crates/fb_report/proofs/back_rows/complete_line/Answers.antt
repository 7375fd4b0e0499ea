use Rattle.fb_report.proofs.Words.{[], ◌∷◌, refl, inl, inr, codes, decimal, task_text, back_grammar, AreNames, IsLine, is_row}
use Rattle.fb_report.proofs.{Fields.in_row, PrintedForms.word_is}
use Rattle.fb_report.proofs.PrintedRows.{◌&◌, ended_as, named_is}
use Rattle.fb_report.proofs.back_rows.complete_line.Goals as goal

pub returns-clause-form : goal.returns-clause-form
returns-clause-form c =
    let row = c.args.row.now in
    let fields = task_text c.args.names.now row.task ∷ decimal row.instant ∷ [] in
    ended_as (λ line. AreNames c.args.names.now → IsLine (is_row back_grammar) line) c.end.result c.number.new.self
    (codes "done") fields c.end.ensures
    (rw (c.in_ok-number.ensures.value, c.in_ok-task.ensures, c.in_ok-line.ensures) refl)
    (λ named. in_row back_grammar (codes "done") fields
    (inr (inr (inr (inr (inr (inr (inr (inl
    (word_is (codes "done") refl & named_is c.args.names.now row.task named c.requires.named & c.in_ok-number.ensures.form & tt))))))))))
