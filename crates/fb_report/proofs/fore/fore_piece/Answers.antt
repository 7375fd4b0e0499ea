use Rattle.fb_units.proofs.Lists.{all_get}
use Rattle.fb_report.proofs.Words.{ap, sym, ◌∙◌, arith, Some, length, ◌+◌, ◌-◌, fore_last, fore_grammar, ReadsSectors}
use Rattle.fb_report.proofs.{InPlace.at_row, Lines.line_row, Lines.line_last, Lines.fore_are}
use Rattle.fb_report.proofs.fore.fore_piece.Goals as goal

pub returns-in_ok-fore_line-clause-value : goal.returns-in_ok-fore_line-clause-value
returns-in_ok-fore_line-clause-value c =
    line_row _ _ _ _ _ (fore_are c.args.sector_bytes c.args.bytes c.args.run.now) c.args.k c.get-row.result.now
    (omega arith) c.get-row.ensures
    ∙ ap Some (sym c.in_ok-fore_line.ensures.value)

pub returns-in_ok-fore_last-clause-value : goal.returns-in_ok-fore_last-clause-value
returns-in_ok-fore_last-clause-value c =
    line_last _ _ _ _ _ (fore_are c.args.sector_bytes c.args.bytes c.args.run.now) c.args.k (omega (arith, c.requires.line))
    ∙ ap (λ n. Some (fore_last n c.args.run.now.passed_over)) (sym c.len-rows.ensures.value) ∙ ap Some (sym c.in_ok-fore_last.ensures.value)

pub returns-in_ok-fore_line-clause-form : goal.returns-in_ok-fore_line-clause-form
returns-in_ok-fore_line-clause-form c = λ big reads.
    at_row fore_grammar (length c.args.run.now.fore + 2) c.args.k _ (omega arith) (omega arith) (c.in_ok-fore_line.ensures.form big
    (all_get ReadsSectors c.args.run.now.fore (c.args.k - 1) c.get-row.result.now reads c.get-row.ensures))
