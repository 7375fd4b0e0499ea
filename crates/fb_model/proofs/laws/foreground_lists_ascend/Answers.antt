use Rattle.fb_model.proofs.Joined.{in_order}
use Rattle.fb_model.proofs.laws.foreground_lists_ascend.Goals as goal

pub returns : goal.returns
returns c = in_order
