use Rattle.fb_check.proofs.Words.{◌≡◌, ◌≢◌, ℕ, List, Bool, false, true≢false, sym, ◌∙◌, join_with_byte, bytes_eq}
use Rattle.fb_check.proofs.Words.{join_with_byte-slice_split, bytes_eq-Decides, report_fields}
use Rattle.fb_check.proofs.FirstField.{fields_differ}
use Rattle.fb_check.proofs.fields.wrong_part.Goals as goal

-- another line isn't what the printed fields join to
other_line : (due printed : List ℕ) (same : Bool) → same ≡ bytes_eq due printed → same ≡ false → due ≢ join_with_byte 32 (report_fields printed)
other_line due printed same is other e =
    true≢false (sym ((bytes_eq-Decides due printed).1 (e ∙ join_with_byte-slice_split 32 printed)) ∙ (sym is ∙ other))

pub returns-then-eq : goal.returns-then-eq
returns-then-eq c = (bytes_eq-Decides _ _).0 (sym c.eq.ensures ∙ c.if-eq.true) ∙ sym (join_with_byte-slice_split 32 c.args.printed.now)

pub first_wrong_part-requires-clause-differ : goal.first_wrong_part-requires-clause-differ
first_wrong_part-requires-clause-differ c = fields_differ c.args.due.now (report_fields c.args.printed.now)
    (other_line c.args.due.now c.args.printed.now _ c.eq.ensures c.if-eq.false)

pub returns-else-eq : goal.returns-else-eq
returns-else-eq c = let wrong = c.first_wrong_part.ensures in record {
  other = other_line c.args.due.now c.args.printed.now _ c.eq.ensures c.if-eq.false;
  field_index = wrong.0;
  field_is = wrong.1;
  fields = wrong.2;
}
