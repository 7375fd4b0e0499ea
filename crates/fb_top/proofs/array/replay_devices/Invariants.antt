use Rattle.fb_top.proofs.Words.{◌≡◌, ℕ, true, length, Some, slice_get, AllByRecursion, Run, array_terms, CanTellFore, IsRunOfDevice}
use Rattle.fb_top.proofs.Words.{array_of, is_rebuilt_from, CanBeTold}
use Rattle.fb_top.proofs.array.replay_devices.Given as goal

abbrev pub invariant-loop-trace : goal.invariant-loop-trace
invariant-loop-trace l =
    let terms = array_terms l.words in
    record {
      count : length l.runs ≡ l.trace-index;
      full : (device : ℕ) (run : Run) → slice_get l.runs device ≡ Some run → IsRunOfDevice terms (array_of l.files) device run;
      told : AllByRecursion CanTellFore l.runs;
      back_told : (device : ℕ) (run : Run) → slice_get l.runs device ≡ Some run → is_rebuilt_from terms.rebuild device ≡ true
          → CanBeTold l.files.calls.names run;
    }
