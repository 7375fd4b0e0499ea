use Rattle.fb_report.proofs.Words.{subst, IfOk-weaker, CountsSectors}
use Rattle.fb_report.proofs.back_rows.back_line.Goals as goal

pub returns-in-Got-clause-form : goal.returns-in-Got-clause-form
returns-in-Got-clause-form c = IfOk-weaker c.got_line.result _ _
    (λ line is big named counts. is big named (subst CountsSectors c.in-Got.is counts)) c.got_line.ensures.form
