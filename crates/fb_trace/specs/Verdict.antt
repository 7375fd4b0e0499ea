-- What the result of reading says of the text.
use Rattle.std.specs.Prelude.{◌≡◌, ℕ, List, length, slice_get, Some, Ok}
pub use Rattle.fb_units.specs.Reading.{Answers}
use Rattle.fb_trace.specs.declared.trace.Trace.{Trace}
use Rattle.fb_trace.specs.Reading.{Accepted, trace_of}

-- the value of a trace
abbrev pub accepted : Trace → Accepted
accepted trace = record { requests = trace.requests.items; passed_over = trace.passed_over }

-- there is one trace for each of the devices 0, 1, .. below a number, and it is what the text has for that device alone
pub record AreTracesOf (devices sectors : ℕ) (text : List ℕ) (traces : List Trace) : Type 0 where
  pub count : length traces ≡ devices
  pub each : (device : ℕ) (trace : Trace) → slice_get traces device ≡ Some trace → trace_of device sectors text ≡ Ok (accepted trace)
