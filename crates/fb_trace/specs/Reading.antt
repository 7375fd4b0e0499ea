-- Reading a trace, line by line.
use Rattle.std.specs.Prelude.{ℕ, ◌+◌, List, [], ◌∷◌, ◌++◌, length, Result, Ok}
use Rattle.fb_units.specs.Lines.{lines_of, fields_of}
use Rattle.fb_units.specs.declared.types.Request.{Request}
use Rattle.fb_trace.specs.declared.trace.TraceReason.{TraceReason}
use Rattle.fb_trace.specs.declared.trace.TraceFault.{TraceFault}
use Rattle.fb_trace.specs.declared.reader.Line.{Line}
use Rattle.fb_trace.specs.declared.reader.Line.TheVariants.{Blank, PassedOver, Asked}
use Rattle.fb_units.specs.Judging.{◌>>=◌, refused_as}
use Rattle.fb_trace.specs.Line.{line_of}

-- the requests of one device, and how many of others were passed over
pub record Accepted : Type 0 where
  pub requests : List Request
  pub passed_over : ℕ

-- what was read of the lines so far: their requests, and the instant of the last line that isn't blank
pub record Progress : Type 0 where
  pub instant : ℕ
  pub trace : Accepted

-- before the first line
abbrev pub at_start : Progress
at_start = record { instant = 0; trace = record { requests = []; passed_over = 0 } }

-- the lines so far and one more
abbrev pub with_line : Progress → Line → Progress
with_line so_far Blank = so_far
with_line so_far (PassedOver arrival) =
    record { instant = arrival; trace = record { requests = so_far.trace.requests; passed_over = so_far.trace.passed_over + 1 } }
with_line so_far (Asked request) = record {
  instant = request.arrival;
  trace = record { requests = so_far.trace.requests ++ request ∷ []; passed_over = so_far.trace.passed_over };
}

-- a fault of the line with this number
abbrev pub fault_at : ℕ → TraceReason → TraceFault
fault_at number reason = record { line = number; reason = reason }

-- the lines so far and the next one, which has this number; or its fault
abbrev pub next_progress : ℕ → ℕ → ℕ → Progress → List ℕ → Result Progress TraceFault
next_progress device sectors number so_far line = refused_as (fault_at number) do
  added ← line_of device sectors so_far.instant (length so_far.trace.requests + 1) (fields_of line)
  Ok (with_line so_far added)

-- the lines from this number on, behind those so far
unfoldable pub lines_from : ℕ → ℕ → ℕ → Progress → List (List ℕ) → Result Accepted TraceFault
lines_from device sectors number so_far [] = Ok so_far.trace
lines_from device sectors number so_far (line ∷ lines) = do
  next ← next_progress device sectors number so_far line
  lines_from device sectors (number + 1) next lines

-- the trace that a text has for a device, on a disk of this many sectors; or its first faulty line
abbrev pub trace_of : ℕ → ℕ → List ℕ → Result Accepted TraceFault
trace_of device sectors text = lines_from device sectors 1 at_start (lines_of text)
