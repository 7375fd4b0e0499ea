use Rattle.fb_check.proofs.Words.{◌-◌, length, take, sym, ap, ◌∙◌, subst, join_with_byte, ended}
use Rattle.fb_check.specs.Comparing.{DiffersFrom, FindsWrong}
use Rattle.fb_check.proofs.Beginnings.{trimmed}
use Rattle.fb_check.proofs.comparing.Comparison.pass_line.Goals as goal

pub returns-in-None-clause-due : goal.returns-in-None-clause-due
returns-in-None-clause-due c =
    let front = take (length c.args.due.now - 1) c.args.due.now in
    let found = c.wrong_at.ensures in
    record {
      line = found.0;
      is_due = c.requires.whole.1 ∙ ap ended (sym (trimmed c.args.due.now c.requires.whole.0 c.requires.whole.1)
          ∙ subst (λ wrong. FindsWrong wrong front found.0) c.in-None.is found.2);
      is_printed = found.1;
    }

pub returns-in-Some-clause-differs : goal.returns-in-Some-clause-differs
returns-in-Some-clause-differs c =
    let front = take (length c.args.due.now - 1) c.args.due.now in
    let found = c.wrong_at.ensures in
    let wrong : DiffersFrom front found.0 c.in-Some.field = subst (λ wrong. FindsWrong wrong front found.0) c.in-Some.is found.2 in
    record {
      due_line = front;
      is_due = c.requires.whole.1 ∙ ap ended (sym (trimmed c.args.due.now c.requires.whole.0 c.requires.whole.1));
      line = found.0;
      is_printed = found.1;
      differs = λ e. wrong.other (trimmed c.args.due.now (join_with_byte 32 found.0) e);
      field_index = wrong.field_index;
      field_is = wrong.field_is;
      fields = wrong.fields;
    }
