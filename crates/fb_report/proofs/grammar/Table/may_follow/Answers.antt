use Rattle.fb_report.proofs.Words.{◌∙◌, arith}
use Rattle.fb_report.proofs.Rows.{row_of_table}
use Rattle.fb_report.proofs.grammar.Table.may_follow.Goals as goal

pub returns-else-len-eq0 : goal.returns-else-len-eq0
returns-else-len-eq0 c =
    c.are_row.ensures ∙ row_of_table c.args.self.now c.args.lines.now _ _ (omega (arith, c.len.ensures.value)) c.of-fields.ensures
