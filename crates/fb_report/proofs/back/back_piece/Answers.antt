use Rattle.fb_units.proofs.Lists.{all_get}
use Rattle.fb_report.proofs.Words.{ap, sym, ◌∙◌, arith, Some, length, ◌+◌, ◌-◌, back_grammar, CountsSectors}
use Rattle.fb_report.proofs.{InPlace.at_row, Lines.line_row, Lines.line_last, Lines.back_are}
use Rattle.fb_report.proofs.back.back_piece.Goals as goal

pub returns-in_ok-back_line-clause-value : goal.returns-in_ok-back_line-clause-value
returns-in_ok-back_line-clause-value c =
    line_row _ _ _ _ _ (back_are c.args.names.now c.args.sector_bytes c.args.bytes c.args.run.now) c.args.k c.get-row.result.now
    (omega arith) c.get-row.ensures
    ∙ ap Some (sym c.in_ok-back_line.ensures.value)

pub returns-in_ok-back_last-clause-value : goal.returns-in_ok-back_last-clause-value
returns-in_ok-back_last-clause-value c =
    line_last _ _ _ _ _ (back_are c.args.names.now c.args.sector_bytes c.args.bytes c.args.run.now) c.args.k
    (omega (arith, c.requires.line)) ∙ ap Some (sym c.in_ok-back_last.ensures.value)

pub returns-in_ok-back_line-clause-form : goal.returns-in_ok-back_line-clause-form
returns-in_ok-back_line-clause-form c = λ big named counts.
    at_row back_grammar (length c.args.run.now.back + 2) c.args.k _ (omega arith) (omega arith)
    (c.in_ok-back_line.ensures.form big named
    (all_get CountsSectors c.args.run.now.back (c.args.k - 1) c.get-row.result.now counts c.get-row.ensures))
