use Rattle.fb_report.proofs.Words.{refl, inl, inr, codes, on_ok_weaker}
use Rattle.fb_report.proofs.PrintedForms.{word_is}
use Rattle.fb_report.proofs.PrintedRows.{◌&◌, how_is, named_is}
use Rattle.fb_report.proofs.back_rows.push_delivery.Goals as goal

pub returns-clause-form : goal.returns-clause-form
returns-clause-form c =
    let row = c.args.row.now in
    on_ok_weaker c.word-2.result
    (λ _ named found. inr (inr (inr (inl (word_is (codes "got") refl & named_is c.args.names.now row.block.task named c.requires.named &
    c.in_ok-number.ensures.form & c.in_ok-number-2.ensures.form
    & c.in_ok-number-3.ensures.form & c.in_ok-number-4.ensures.form & c.in_ok-number-5.ensures.form & how_is row.how &
    c.in_ok-number-6.ensures.form & found & tt)))))
    c.word-2.ensures
