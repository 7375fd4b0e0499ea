-- How commands end.
use Rattle.fb_top.proofs.Words.{Option, Some, None, inl, refl, SpillRun, DeskView, Run, ReplayTerms, AreServed, Told, failed_input}
use Rattle.fb_top.proofs.Words.{InputsError, failed_output, TextsError, EndsAs, unread, unwritten, replay_names, StopsInputs, HasCause}
use Rattle.fb_top.proofs.Words.{done_as}
use Rattle.fb_streams.specs.Called.{Asked, EndsBy}
use Rattle.fb_inputs.specs.declared.error.InputsError.TheVariants as inputs
use Rattle.fb_texts.specs.declared.error.TextsError.TheVariants as faults

pub done_ends : (asked : Asked) (run : Run) (spill : Option SpillRun) {a b : Told} → AreServed asked a b
    → EndsAs asked (done_as run spill) a b
done_ends asked run None calls = calls
done_ends asked run (Some spill) calls = calls

-- why the files of a replay were not read
pub replay_stopped : (terms : ReplayTerms) (old new : DeskView) (error : InputsError) → StopsInputs (replay_names terms) old new error
    → HasCause terms old new (unread error)
replay_stopped terms old new inputs.NoMemory h = inl h
replay_stopped terms old new error h = (error, refl, h)

-- the calls where inputs were not all accepted
pub unread_ends : (asked : Asked) (error : InputsError) (a b : Told) → EndsBy asked (failed_input error) a b → EndsAs asked (unread error) a b
unread_ends asked (inputs.ReadFault input) a b calls = calls
unread_ends asked _ a b calls = calls

-- the calls where texts were not all written
pub unwritten_ends : (asked : Asked) (error : TextsError) (a b : Told) → EndsBy asked (failed_output error) a b
    → EndsAs asked (unwritten error) a b
unwritten_ends asked (faults.WriteFault output) a b calls = calls
unwritten_ends asked faults.NoMemory a b calls = calls
