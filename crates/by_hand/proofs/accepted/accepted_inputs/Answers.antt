use Rattle.by_hand.proofs.AcceptedInputs.{promoted_is_accepted, segments_are_accepted}
use Rattle.by_hand.proofs.accepted.accepted_inputs.Goals as goal

pub returns : goal.returns
returns c = record { wants_and_promote = promoted_is_accepted; segments = segments_are_accepted }
