use Rattle.fb_model.proofs.Disks.{begins_first}
use Rattle.fb_model.proofs.laws.passages_begin_first.Goals as goal

pub returns : goal.returns
returns c = begins_first
