use Rattle.fb_report.proofs.Words.{◌≡◌, sym, subst, IfOk-weaker, fore_first, fore_grammar, IsLine, is_first}
use Rattle.fb_report.proofs.PrintedRows.{fore_first_is}
use Rattle.fb_report.proofs.fore.fore_first.Goals as goal

pub returns-clause-form : goal.returns-clause-form
returns-clause-form c =
    let P = IsLine (is_first fore_grammar) in
    IfOk-weaker c.first_line.result (λ line. line.items ≡ fore_first) (λ line. P line.items) (λ line is. subst P (sym is) fore_first_is)
    c.first_line.ensures
