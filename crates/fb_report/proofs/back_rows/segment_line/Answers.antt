use Rattle.fb_report.proofs.Words.{◌∷◌, ◌≡◌, ◌∙◌, refl, ap, subst, codes, digest_text, segment_fields, shown, are_bytes}
use Rattle.fb_report.proofs.Words.{back_grammar, AreNames, AreOneOf, IsField, IsLine, is_row}
use Rattle.fb_report.proofs.{Fields.in_row, ShownForms.digest_is, PrintedRows.ended_as}
use Rattle.fb_report.proofs.back_rows.segment_line.Goals as goal

pub returns-clause-form : goal.returns-clause-form
returns-clause-form c =
    let row = c.args.row.now in
    let names = c.args.names.now in
    let digest : c.as_slice.result.now ≡ digest_text c.args.bytes c.args.sector_bytes row.content =
    c.as_slice.ensures.value ∙ c.in_ok-digest.ensures ∙ ap (λ bytes. shown bytes c.args.sector_bytes row.content) c.digested.ensures in
    let fields = segment_fields names row (digest_text c.args.bytes c.args.sector_bytes row.content) in
    ended_as (λ line. AreNames names → IsLine (is_row back_grammar) line) c.end.result c.push_segment.new.line
    (codes "seg") fields c.end.ensures
    (rw (c.in_ok-push_segment.ensures.value, c.in_ok-line.ensures, digest) refl)
    (λ named. in_row back_grammar (codes "seg") fields
    (subst (λ bytes. IsField are_bytes bytes → AreOneOf back_grammar.rows (codes "seg" ∷ segment_fields names row bytes)) digest
    (c.in_ok-push_segment.ensures.form named)
    (digest_is c.args.bytes c.args.sector_bytes row.content)))
