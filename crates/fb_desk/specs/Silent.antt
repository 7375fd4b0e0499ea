-- What a desk shows that tells no bytes, no names and no calls.
use Rattle.std.specs.Prelude.{ℕ, Bool, None}
use Rattle.fb_desk.specs.declared.desk.Input.{Input}
use Rattle.fb_desk.specs.declared.desk.Output.{Output}
use Rattle.fb_desk.specs.View.{InputView, OutputView, DeskView}

-- whether an input is opened, and its count of faults
abbrev pub silent_input : Bool → ℕ → InputView
silent_input opened faults = record { opened = opened; left = None; faults = faults }

-- whether an output is begun, and its count of faults
abbrev pub silent_output : Bool → ℕ → OutputView
silent_output begun faults = record { begun = begun; name = None; written = None; faults = faults }

-- which inputs are opened and which outputs are begun, and the counts of faults
abbrev pub silent_view : (Input → Bool) → (Output → Bool) → (Input → ℕ) → (Output → ℕ) → DeskView
silent_view opened begun read_faults write_faults = record {
  held = λ name. None;
  inputs = λ which. silent_input (opened which) (read_faults which);
  outputs = λ which. silent_output (begun which) (write_faults which);
  calls = None;
}
