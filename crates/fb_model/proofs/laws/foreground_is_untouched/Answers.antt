use Rattle.fb_model.proofs.Untouched.{untouched}
use Rattle.fb_model.proofs.laws.foreground_is_untouched.Goals as goal

pub returns : goal.returns
returns c = untouched
