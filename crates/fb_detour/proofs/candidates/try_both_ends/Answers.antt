use Rattle.fb_detour.proofs.Found.{through}
use Rattle.fb_detour.proofs.candidates.try_both_ends.Goals as goal

pub returns-clause-keeps : goal.returns-clause-keeps
returns-clause-keeps c = through c.args.trial.now.search.now c.try_leave.result.plan c.try_leave-best.result.plan c.args.best.plan
    c.try_leave.ensures.keeps c.try_leave-best.ensures.keeps
