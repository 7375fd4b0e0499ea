-- How the reading of an input ends.
use Rattle.std.proofs.Common.{Option}
use Rattle.fb_geometry.specs.Shape.{Shape}
use Rattle.fb_words.specs.Command.{RebuildTerms}
use Rattle.fb_inputs.specs.Devices.{StopsRebuild}
use Rattle.fb_inputs.specs.declared.error.InputsError.{InputsError}
use Rattle.fb_inputs.specs.declared.error.InputsError.TheVariants as faults
use Rattle.fb_streams.specs.Called.{AreServed, Asked, EndsBy, Told}
use Rattle.fb_inputs.specs.Ends.{failed_input}

pub rebuild_ends : (asked : Asked) (rebuild : Option RebuildTerms) (disk : Shape) (outcome : InputsError) {a b : Told} → AreServed asked a b
    → StopsRebuild rebuild disk outcome → EndsBy asked (failed_input outcome) a b
rebuild_ends asked rebuild disk (faults.ReadFault input) calls stops = absurd stops
rebuild_ends asked rebuild disk _ calls stops = calls
