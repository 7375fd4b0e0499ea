use Rattle.fb_model.proofs.TheRun.{full_runs_exist}
use Rattle.fb_model.proofs.laws.full_runs_exist.Goals as goal

pub returns : goal.returns
returns c = full_runs_exist
