use Rattle.fb_model.proofs.FullRuns.{one_full}
use Rattle.fb_model.proofs.laws.one_full_run.Goals as goal

pub returns : goal.returns
returns c = one_full
