use Rattle.fb_decide.proofs.Words.{ap, sym, ◌∙◌, run_end}
use Rattle.fb_decide.proofs.deciding.Decider.instant.Goals as goal

pub returns-clause-end : goal.returns-clause-end
returns-clause-end g c = λ inputs steps made. sym made.come_to.run.ends_at ∙ ap run_end made.come_to.decided

pub returns-clause-early : goal.returns-clause-early
returns-clause-early g c = λ inputs steps made. made.come_to.early
