use Rattle.fb_report.proofs.Words.{[], ◌∷◌, ◌≡◌, ◌<◌, ◌^◌, ◌∙◌, refl, ap, inl, inr, codes, decimal, sum_by, digest_text, shown, task_text}
use Rattle.fb_report.proofs.Words.{back_grammar, AreNames, IsLine, is_row}
use Rattle.fb_report.proofs.{Fields.in_row, PrintedForms.number_is, PrintedForms.word_is, ShownForms.digest_is}
use Rattle.fb_report.proofs.PrintedRows.{◌&◌, ended_as, named_is}
use Rattle.fb_report.proofs.back_rows.seal_line.Goals as goal

pub returns-clause-form : goal.returns-clause-form
returns-clause-form c =
    let row = c.args.row.now in
    let names = c.args.names.now in
    let sum = sum_by (λ run. run.count) row.content in
    let digest : c.as_slice.result.now ≡ digest_text c.args.bytes c.args.sector_bytes row.content =
    c.as_slice.ensures.value ∙ c.in_ok-digest.ensures ∙ ap (λ bytes. shown bytes c.args.sector_bytes row.content) c.digested.ensures in
    let fields = task_text names row.task ∷ decimal row.instant ∷ decimal sum ∷ digest_text c.args.bytes c.args.sector_bytes row.content
    ∷ [] in
    ended_as (λ line. AreNames names → sum < 2 ^ 64 → IsLine (is_row back_grammar) line) c.end.result c.word.new.self
    (codes "seal") fields c.end.ensures
    (rw (
      c.in_ok-word.ensures,
      c.in_ok-sum.ensures,
      c.in_ok-number.ensures.value,
      c.in_ok-task.ensures,
      c.in_ok-line.ensures,
      digest,
      c.sectors.ensures,
    ) refl)
    (λ named few. in_row back_grammar (codes "seal") fields
    (inr (inr (inr (inr (inr
    (inl (word_is (codes "seal") refl & named_is names row.task named c.requires.named & c.in_ok-number.ensures.form & number_is sum few
    & digest_is c.args.bytes c.args.sector_bytes row.content & tt))))))))
