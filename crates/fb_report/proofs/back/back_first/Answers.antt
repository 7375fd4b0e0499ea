use Rattle.fb_report.proofs.Words.{◌≡◌, sym, subst, IfOk-weaker, back_first, back_grammar, IsLine, is_first}
use Rattle.fb_report.proofs.PrintedRows.{back_first_is}
use Rattle.fb_report.proofs.back.back_first.Goals as goal

pub returns-clause-form : goal.returns-clause-form
returns-clause-form c =
    let P = IsLine (is_first back_grammar) in
    IfOk-weaker c.first_line.result (λ line. line.items ≡ back_first) (λ line. P line.items) (λ line is. subst P (sym is) back_first_is)
    c.first_line.ensures
