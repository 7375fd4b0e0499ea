use Rattle.fb_model.proofs.NoLookAhead.{no_look_ahead}
use Rattle.fb_model.proofs.laws.nothing_looks_ahead.Goals as goal

pub returns : goal.returns
returns c = no_look_ahead
