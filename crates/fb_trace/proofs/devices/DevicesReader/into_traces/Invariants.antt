use Rattle.std.proofs.Common.{◌≡◌, drop, take, map}
use Rattle.fb_trace.specs.Progress.{own_trace, requests_of}
use Rattle.fb_trace.specs.Verdict.{accepted}
use Rattle.fb_trace.proofs.devices.DevicesReader.into_traces.Given as goal

abbrev pub invariant-loop-trace : goal.invariant-loop-trace
invariant-loop-trace l = record {
  done : map accepted (take l.trace-index l.trace-items) ≡ map (own_trace l.self) (take l.trace-index (requests_of l.self));
  left : drop l.trace-index l.trace-items ≡ drop l.trace-index l.self.traces.items;
}
