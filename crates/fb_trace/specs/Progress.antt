-- What the readers have read of a trace so far.
use Rattle.std.specs.Prelude.{ℕ, ◌+◌, ◌-◌, ◌≤◌, List, [], ◌∷◌, length, map, Option, Some, None, Result, Ok, Err}
use Rattle.std.specs.List.{AllByRecursion}
use Rattle.fb_units.specs.Judging.{◌>>=◌}
use Rattle.fb_units.specs.declared.types.Request.{Request}
use Rattle.fb_trace.specs.declared.trace.TraceFault.{TraceFault}
use Rattle.fb_trace.specs.declared.reader.Reader.{Reader}
use Rattle.fb_trace.specs.declared.devices.DevicesReader.{DevicesReader}
use Rattle.fb_trace.specs.Devices.{all_of}
use Rattle.fb_trace.specs.Reading.{Accepted, Progress, lines_from}
use Rattle.fb_trace.specs.Verdict.{accepted}

-- what a reader has read of the lines so far
abbrev pub progress : Reader → Progress
progress reader = record { instant = reader.instant; trace = accepted reader.trace }

-- the requests so far of each device that is still read
abbrev pub requests_of : DevicesReader → List (List Request)
requests_of reader = map (λ trace. trace.requests.items) reader.traces.items

-- no device has more requests than all have
abbrev pub AreCounted : DevicesReader → Type 0
AreCounted reader = AllByRecursion (λ own. length own ≤ reader.requests) (requests_of reader)

-- the trace of a device that has these requests; the others that were read are passed over
abbrev pub own_trace : DevicesReader → List Request → Accepted
own_trace reader own = record { requests = own; passed_over = reader.requests - length own }

-- what the lines from this number on give for this device, behind those so far
abbrev pub rest_for : DevicesReader → ℕ → List (List ℕ) → ℕ → List Request → Result Accepted TraceFault
rest_for reader number lines device own =
    lines_from device reader.sectors number (record { instant = reader.instant; trace = own_trace reader own }) lines

-- f of each device and what it has, where the first of these is what this device has
abbrev pub by_device : {X Y : Type 0} → (ℕ → X → Y) → ℕ → List X → List Y
by_device f device [] = []
by_device f device (x ∷ xs) = f device x ∷ by_device f (device + 1) xs

-- the traces of the devices that are still read, or the fault of the next device if that was refused
abbrev pub unless_refused : Option TraceFault → List Accepted → Result (List Accepted) TraceFault
unless_refused None traces = Ok traces
unless_refused (Some fault) traces = Err fault

-- what the lines from this number on give for all devices, behind those so far
abbrev pub rest_of_text : DevicesReader → ℕ → List (List ℕ) → Result (List Accepted) TraceFault
rest_of_text reader number lines = all_of (by_device (rest_for reader number lines) 0 (requests_of reader)) >>= unless_refused reader.fault
