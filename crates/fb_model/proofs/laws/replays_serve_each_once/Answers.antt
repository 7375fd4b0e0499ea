use Rattle.fb_model.proofs.Replays.{each_once, one_row}
use Rattle.fb_model.proofs.laws.replays_serve_each_once.Goals as goal

pub returns : goal.returns
returns c = record { served = each_once; rows = one_row }
