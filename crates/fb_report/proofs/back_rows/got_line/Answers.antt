use Rattle.fb_report.proofs.Words.{◌∷◌, ◌≡◌, ◌<◌, ◌∙◌, refl, subst, codes, got_fields, shown, are_bytes, back_grammar, AreNames, AreOneOf}
use Rattle.fb_report.proofs.Words.{HasSectors, IsField, IsLine, is_row}
use Rattle.fb_report.proofs.{Fields.in_row, ShownForms.shown_is, PrintedRows.ended_as}
use Rattle.fb_report.proofs.back_rows.got_line.Goals as goal

pub returns-clause-form : goal.returns-clause-form
returns-clause-form c =
    let row = c.args.row.now in
    let names = c.args.names.now in
    let found : c.as_slice.result.now ≡ shown c.args.bytes c.args.sector_bytes row.content = c.as_slice.ensures.value
    ∙ c.in_ok-found.ensures in
    let fields = got_fields names row (shown c.args.bytes c.args.sector_bytes row.content) in
    ended_as (λ line. 0 < c.args.sector_bytes → AreNames names → HasSectors row.content → IsLine (is_row back_grammar) line) c.end.result
    c.push_delivery.new.line (codes "got") fields c.end.ensures
    (rw (c.in_ok-push_delivery.ensures.value, c.in_ok-line.ensures, found) refl)
    (λ big named some. in_row back_grammar (codes "got") fields
    (subst (λ bytes. IsField are_bytes bytes → AreOneOf back_grammar.rows (codes "got" ∷ got_fields names row bytes)) found
    (c.in_ok-push_delivery.ensures.form named)
    (shown_is c.args.bytes c.args.sector_bytes row.content big some)))
