use Rattle.std.proofs.Common.{◌≡◌, ◌+◌, ◌≤◌, length}
use Rattle.fb_units.specs.Lines.{lines_of}
use Rattle.fb_trace.specs.Devices.{traces_of}
use Rattle.fb_trace.specs.Progress.{AreCounted, rest_of_text}
use Rattle.fb_trace.proofs.devices.read_traces.Given as goal

abbrev pub invariant-loop-line : goal.invariant-loop-line
invariant-loop-line l = record {
  read : rest_of_text l.reader (l.number + 1) (lines_of l.rest) ≡ traces_of l.devices l.sectors l.bytes;
  number : l.number + length l.rest ≤ length l.bytes;
  requests : l.reader.requests ≤ l.number;
  counted : AreCounted l.reader;
}

abbrev pub decreases-loop-line : goal.decreases-loop-line
decreases-loop-line l = length l.rest
