use Rattle.std.proofs.Common.{◌≡◌, [], map}
use Rattle.std.specs.Prelude.{replicate}
use Rattle.fb_trace.proofs.devices.DevicesReader.new.Given as goal

abbrev pub invariant-loop : goal.invariant-loop
invariant-loop l = map (λ trace. trace.requests.items) l.traces.items ≡ replicate l.counter []
