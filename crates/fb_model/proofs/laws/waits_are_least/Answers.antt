use Rattle.fb_units.proofs.Waits.{wait_least}
use Rattle.fb_model.proofs.laws.waits_are_least.Goals as goal

pub returns : goal.returns
returns c = wait_least
