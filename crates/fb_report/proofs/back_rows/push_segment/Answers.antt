use Rattle.fb_report.proofs.Words.{refl, inl, inr, codes, on_ok_weaker}
use Rattle.fb_report.proofs.PrintedForms.{word_is}
use Rattle.fb_report.proofs.PrintedRows.{◌&◌, named_is}
use Rattle.fb_report.proofs.back_rows.push_segment.Goals as goal

pub returns-clause-form : goal.returns-clause-form
returns-clause-form c =
    on_ok_weaker c.word.result
    (λ _ named digest.
    inr (inr (inr (inr (inr (inr (inl (word_is (codes "seg") refl & named_is c.args.names.now c.args.row.now.task named c.requires.named
    & c.in_ok-number.ensures.form & c.in_ok-number-2.ensures.form & c.in_ok-number-3.ensures.form & digest & tt))))))))
    c.word.ensures
