use Rattle.fb_detour.proofs.Found.{through}
use Rattle.fb_detour.proofs.candidates.try_dense.Goals as goal

pub returns-clause-keeps : goal.returns-clause-keeps
returns-clause-keeps c = through c.args.trial.now.search.now c.try_each.result.plan c.try_both_ends-best.result.plan
    c.args.best.plan c.try_each.ensures.keeps c.try_both_ends-best.ensures.keeps
