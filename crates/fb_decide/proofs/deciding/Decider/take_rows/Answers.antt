use Rattle.fb_decide.proofs.Looping.{made_without}
use Rattle.fb_decide.proofs.deciding.Decider.take_rows.Goals as goal

pub returns-clause-made : goal.returns-clause-made
returns-clause-made g c = λ inputs more steps made. made_without inputs more steps _ _ _ made
