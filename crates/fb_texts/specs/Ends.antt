-- At which output the writing of texts stopped.
use Rattle.std.specs.Prelude.{Option, Some, None}
use Rattle.fb_streams.specs.Called.{Stream, of_output}
use Rattle.fb_texts.specs.declared.error.TextsError.{TextsError}
use Rattle.fb_texts.specs.declared.error.TextsError.TheVariants as faults

-- the output of which a call failed, if one did
abbrev pub failed_output : TextsError → Option Stream
failed_output (faults.WriteFault output) = Some (of_output output)
failed_output faults.NoMemory = None
