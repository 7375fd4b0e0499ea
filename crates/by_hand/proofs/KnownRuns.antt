-- Two runs that are the same up to an instant, computed.
use Rattle.std.proofs.Common.{refl}
use Rattle.fb_model.specs.Known.{AgreeUpTo, SameKnown}
use Rattle.by_hand.specs.Known.{run_without_third, run_with_third}

pub inputs_agree : AgreeUpTo 1250 run_without_third.inputs run_with_third.inputs
inputs_agree = record { disk = refl; latent = λ lbn. refl; key = refl; requests = refl; calls = refl }

pub same_known : SameKnown 1250 run_without_third.run run_with_third.run
same_known = record { fore = refl; back = refl }
