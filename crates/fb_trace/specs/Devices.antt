-- Reading a trace for several devices.
use Rattle.std.specs.Prelude.{ℕ, List, [], ◌∷◌, Result, Ok, map}
use Rattle.std.specs.List.{range_with_len}
use Rattle.fb_units.specs.Judging.{◌>>=◌}
use Rattle.fb_trace.specs.declared.trace.TraceFault.{TraceFault}
use Rattle.fb_trace.specs.Reading.{Accepted, trace_of}

-- the values of all, or the first refusal
abbrev pub all_of : {A E : Type 0} → List (Result A E) → Result (List A) E
all_of [] = Ok []
all_of (result ∷ results) = do
  value ← result
  values ← all_of results
  Ok (value ∷ values)

-- the traces that a text has for the devices 0, 1, .. below a number, on disks of this many sectors; or the fault of the least device that
-- is refused
abbrev pub traces_of : ℕ → ℕ → List ℕ → Result (List Accepted) TraceFault
traces_of devices sectors text = all_of (map (λ device. trace_of device sectors text) (range_with_len 0 devices))
