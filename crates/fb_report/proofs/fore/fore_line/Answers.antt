use Rattle.fb_report.proofs.Words.{◌≡◌, ◌<◌, [], ◌∷◌, ◌++◌, refl, subst, ◌∙◌, codes, name_text, row_bytes, row_fields, are_bytes}
use Rattle.fb_report.proofs.Words.{fore_grammar, is_one_of, numbers, AreFields, IsField, IsLine, ReadsSectors, is_row}
use Rattle.fb_report.proofs.{Fields.in_row, PrintedRows.ended_as, PrintedRows.fore_row_is, PrintedRows.found_is}
use Rattle.fb_report.proofs.fore.fore_line.Goals as goal

pub returns-clause-form : goal.returns-clause-form
returns-clause-form c =
    let row = c.args.row.now in
    let found : c.as_slice.result.now ≡ row_bytes c.args.sector_bytes c.args.bytes row = c.as_slice.ensures.value ∙ c.in_ok-found.ensures in
    let fields = row_fields row (row_bytes c.args.sector_bytes c.args.bytes row) in
    ended_as (λ line. 0 < c.args.sector_bytes → ReadsSectors row → IsLine (is_row fore_grammar) line) c.end.result c.push_row.new.line
    (name_text row.request.name) fields c.end.ensures
    (rw (c.in_ok-push_row.ensures.value, c.in_ok-line.ensures.value, found) refl)
    (λ big reads. in_row fore_grammar (name_text row.request.name) fields
    (fore_row_is row.request.write (name_text row.request.name) _ _ _ _ _ _ _ row.bad c.in_ok-line.ensures.form
    (subst (λ bytes. IsField are_bytes bytes → AreFields (is_one_of (codes "R" ∷ codes "W" ∷ []) ∷ numbers 7 ++ are_bytes
    ∷ []) (row_fields row bytes)) found c.in_ok-push_row.ensures.form
    (found_is row.request.write c.args.bytes c.args.sector_bytes row.content big reads))))
