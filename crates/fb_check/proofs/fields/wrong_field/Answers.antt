use Rattle.std.proofs.Common.{true≢false, sym, ◌∙◌}
use Rattle.fb_check.proofs.FirstField.{fields_differ}
use Rattle.fb_check.proofs.fields.wrong_field.Goals as goal

pub returns-then-are_joined : goal.returns-then-are_joined
returns-then-are_joined c = c.are_joined.ensures.0 c.if-are_joined.true

pub first_wrong_field-requires-clause-differ : goal.first_wrong_field-requires-clause-differ
first_wrong_field-requires-clause-differ c =
    fields_differ c.args.due.now c.args.printed.now (λ e. true≢false (sym (c.are_joined.ensures.1 e) ∙ c.if-are_joined.false))

pub returns-else-are_joined : goal.returns-else-are_joined
returns-else-are_joined c = let wrong = c.first_wrong_field.ensures in record {
  other = λ e. true≢false (sym (c.are_joined.ensures.1 e) ∙ c.if-are_joined.false);
  field_index = wrong.0;
  field_is = wrong.1;
  fields = wrong.2;
}
