use Rattle.fb_detour.proofs.Found.{through}
use Rattle.fb_detour.proofs.candidates.try_binned.Goals as goal

pub returns-clause-keeps : goal.returns-clause-keeps
returns-clause-keeps c = through c.args.trial.now.search.now c.try_each.result.plan c.try_fullest-best.result.plan c.args.best.plan
    c.try_each.ensures.keeps c.try_fullest-best.ensures.keeps
