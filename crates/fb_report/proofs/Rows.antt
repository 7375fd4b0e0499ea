-- The fields of a line against the forms of a table.
use Rattle.fb_units.proofs.Alike.{list_any-map}
use Rattle.fb_report.proofs.Words.{◌≡◌, ℕ, suc, ◌<◌, List, [], ◌∷◌, true, false, length, drop, map, refl, sym, ap, ◌∙◌, arith}
use Rattle.fb_report.proofs.Words.{length-drop, list_any, fits, written, and_parts, Grammar, LineFields, have_forms, may_follow}
use Rattle.fb_report.specs.Grammar as grammar
use Rattle.fb_report.specs.declared.forms.Form.{Form}
use Rattle.fb_report.specs.declared.grammar.Table.{Table}

-- there are as many fields as forms
pub as_many : (forms : List grammar.Form) (fields : LineFields) → have_forms forms fields ≡ true → length fields ≡ length forms
as_many [] [] h = refl
as_many [] (field ∷ fields) h = absurd (cc)
as_many (form ∷ forms) [] h = absurd (cc)
as_many (form ∷ forms) (field ∷ fields) h = ap suc (as_many forms fields (and_parts (form field) (have_forms forms fields) h).1)

-- forms are left, and no field
none_left : (forms : List Form) → 0 < length forms → have_forms (map fits forms) [] ≡ false
none_left [] some = absurd (omega arith)
none_left (form ∷ forms) some = refl

pub too_few : (forms : List Form) (i : ℕ) → i < length forms → have_forms (map fits (drop i forms)) [] ≡ false
too_few forms i more = none_left (drop i forms) (omega (arith, length-drop i forms))

-- behind other lines only a row may follow
row_follows : (grammar : Grammar) (lines : List LineFields) (line : LineFields) → 0 < length lines
    → may_follow grammar lines line ≡ list_any (λ forms. have_forms forms line) grammar.rows
row_follows grammar [] line some = absurd (omega arith)
row_follows grammar (first ∷ rows) line some = refl

pub row_of_table : (table : Table) (lines : List LineFields) (line fields : LineFields) → 0 < length lines → fields ≡ line
    → list_any (λ row. have_forms (map fits row.now) fields) table.rows.now ≡ may_follow (written table) lines line
row_of_table table lines line fields some e =
    ap (λ fields. list_any (λ row. have_forms (map fits row.now) fields) table.rows.now) e
    ∙ sym (list_any-map (λ forms. have_forms forms line) (λ row. map fits row.now) table.rows.now)
    ∙ sym (row_follows (written table) lines line some)
