-- At which input the reading of inputs stopped.
use Rattle.std.specs.Prelude.{Option, Some, None}
use Rattle.fb_streams.specs.Called.{Stream, of_input}
use Rattle.fb_inputs.specs.declared.error.InputsError.{InputsError}
use Rattle.fb_inputs.specs.declared.error.InputsError.TheVariants as faults

-- the input of which a call failed, if one did
abbrev pub failed_input : InputsError → Option Stream
failed_input (faults.ReadFault input) = Some (of_input input)
failed_input _ = None
