use Rattle.fb_model.proofs.Replays.{only_replay}
use Rattle.fb_model.proofs.laws.one_plain_replay.Goals as goal

pub returns : goal.returns
returns c = only_replay
