use Rattle.std.proofs.Common.{◌≡◌, ◌+◌, ◌≤◌, length}
use Rattle.fb_units.specs.Lines.{lines_of}
use Rattle.fb_calls.specs.Reading.{lines_from, calls_of}
use Rattle.fb_calls.specs.Reader.{progress, IsReader}
use Rattle.fb_calls.proofs.reader.read_calls.Given as goal

abbrev pub invariant-loop-line : goal.invariant-loop-line
invariant-loop-line l = record {
  read : lines_from l.map (l.number + 1) (progress l.reader) (lines_of l.rest) ≡ calls_of l.map l.trace_count l.bytes;
  number : l.number + length l.rest ≤ length l.bytes;
  reader : IsReader l.reader;
}

abbrev pub decreases-loop-line : goal.decreases-loop-line
decreases-loop-line l = length l.rest
