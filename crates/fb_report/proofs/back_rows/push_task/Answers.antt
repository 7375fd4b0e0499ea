use Rattle.fb_report.proofs.Words.{◌-◌, ◌∙◌, refl, ap, subst, inl, inr, codes, decimal, on_ok_weaker, is_number, IsField}
use Rattle.fb_report.proofs.PrintedForms.{word_is}
use Rattle.fb_report.proofs.PrintedRows.{◌&◌, complete_is, named_is, task_kind_is}
use Rattle.fb_report.proofs.back_rows.push_task.Goals as goal

pub returns-clause-form : goal.returns-clause-form
returns-clause-form c =
    let row = c.args.row.now in
    let left = subst (λ n. IsField is_number (decimal n)) (c.saturating_sub-left.ensures
    ∙ ap (λ n. n - row.aborted) c.saturating_sub.ensures) c.in_ok-number-4.ensures.form in
    on_ok_weaker c.word-2.result
    (λ _ named. inr (inr (inr (inr (inr
    (inr (inr (inr (inl (word_is (codes "task") refl & named_is c.args.names.now row.task named c.requires.named & task_kind_is row.kind
    & c.in_ok-number.ensures.form & c.in_ok-number-2.ensures.form & c.in_ok-number-3.ensures.form & left & complete_is row.complete &
    tt))))))))))
    c.word-2.ensures
