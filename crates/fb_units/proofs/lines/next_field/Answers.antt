use Rattle.std.proofs.Common.{arith}
use Rattle.std.proofs.lemmas.Bool.Decides.{nat_tests}
use Rattle.fb_units.proofs.Splitting.{fields_end, fields_next}
use Rattle.fb_units.proofs.lines.next_field.Goals as goal

pub returns-then-is_empty : goal.returns-then-is_empty
returns-then-is_empty c =
    record { field = fields_end c.args.line.now c.behind_blanks-text.result.now c.behind_blanks-text.ensures (grind (arith, nat_tests)) }

pub returns : goal.returns
returns c = record {
  field = fields_next c.args.line.now c.behind_blanks-text.result.now c.split_at.result.0.now c.split_at.result.1.now c.first_blank.result
      c.behind_blanks-text.ensures (grind (arith, nat_tests)) c.first_blank.ensures.index c.split_at.ensures.front c.split_at.ensures.back;
}
