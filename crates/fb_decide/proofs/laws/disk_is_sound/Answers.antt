use Rattle.fb_decide.proofs.Words.{subst, IsSound}
use Rattle.fb_model.proofs.Passages.{long_slots}
use Rattle.fb_decide.proofs.laws.disk_is_sound.Goals as goal

pub returns-clause-takes_time : goal.returns-clause-takes_time
returns-clause-takes_time c = long_slots c.args.disk.now.map (subst IsSound c.geometry.ensures c.sound.ensures)
