use Rattle.std.proofs.Common.{◌≡◌, ◌+◌, ◌≤◌, length}
use Rattle.fb_units.specs.Lines.{lines_of}
use Rattle.fb_trace.specs.Reading.{lines_from, trace_of}
use Rattle.fb_trace.specs.Progress.{progress}
use Rattle.fb_trace.proofs.reader.read_trace.Given as goal

abbrev pub invariant-loop-line : goal.invariant-loop-line
invariant-loop-line l = record {
  device : l.reader.device ≡ l.fn.device;
  sectors : l.reader.sectors ≡ l.fn.sectors;
  read : lines_from l.reader.device l.reader.sectors (l.number + 1) (progress l.reader) (lines_of l.rest)
      ≡ trace_of l.device l.sectors l.bytes;
  number : l.number + length l.rest ≤ length l.bytes;
  passed_over : l.reader.trace.passed_over ≤ l.number;
}

abbrev pub decreases-loop-line : goal.decreases-loop-line
decreases-loop-line l = length l.rest
