use Rattle.fb_check.proofs.Words.{◌≤◌, length, ap, ◌∙◌, slice_get, all_get, report_fields, lines_of}
use Rattle.fb_check.proofs.lines.PrintedLines.wrong_at.Goals as goal

pub wrong_field-requires : goal.wrong_field-requires
wrong_field-requires c = record {
  few = all_get (λ line. length line ≤ 16) (lines_of c.args.self) c.args.index c.get-line.result.now c.requires.few
      (ap (λ lines. slice_get (lines_of lines) c.args.index) c.in-Fields.is ∙ c.get-line.ensures);
}

pub wrong_part-requires : goal.wrong_part-requires
wrong_part-requires c = record {
  few = all_get (λ line. length line ≤ 16) (lines_of c.args.self) c.args.index (report_fields c.get-part.result.now) c.requires.few
      (ap (λ lines. slice_get (lines_of lines) c.args.index) c.in-Text.is ∙ c.get-part.ensures);
}

pub returns-in-Fields : goal.returns-in-Fields
returns-in-Fields c = (
  c.get-line.result.now,
  ap (λ lines. slice_get (lines_of lines) c.args.index) c.in-Fields.is ∙ c.get-line.ensures,
  c.wrong_field.ensures,
)

pub returns-in-Text : goal.returns-in-Text
returns-in-Text c = (
  report_fields c.get-part.result.now,
  ap (λ lines. slice_get (lines_of lines) c.args.index) c.in-Text.is ∙ c.get-part.ensures,
  c.wrong_part.ensures,
)
