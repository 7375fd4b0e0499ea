-- Reading a script, line by line.
use Rattle.std.specs.Prelude.{ℕ, ◌+◌, List, [], ◌∷◌, Result, Ok}
use Rattle.fb_units.specs.Judging.{◌>>=◌, refused_as}
use Rattle.fb_units.specs.Lines.{lines_of, fields_of}
use Rattle.fb_geometry.specs.Shape.{Shape}
use Rattle.fb_script.specs.declared.call.Call.{Call}
use Rattle.fb_calls.specs.declared.fault.CallsFault.{CallsFault}
use Rattle.fb_calls.specs.declared.fault.CallsReason.{CallsReason}
use Rattle.fb_calls.specs.Line.{entry_of}
use Rattle.fb_calls.specs.Judgement.{Progress, call_of, with_call}

-- the tasks' names in order of opening, and the calls in line order
pub record Accepted : Type 0 where
  pub names : List (List ℕ)
  pub calls : List Call

-- before the first line: only the requests of the trace are counted
abbrev pub at_start : ℕ → Progress
at_start traced = record { instant = 0; names = []; sessions = []; blocks = 0; reads = traced; calls = [] }

-- the script, at the end of the text
abbrev pub at_end : Progress → Accepted
at_end so_far = record { names = so_far.names; calls = so_far.calls }

-- the calls so far and that of a line; a line without fields is blank, and any other is a call
unfoldable pub line_read : Shape → ℕ → Progress → List (List ℕ) → Result Progress CallsReason
line_read disk number so_far [] = Ok so_far
line_read disk number so_far (field ∷ fields) = do
  entry ← entry_of (field ∷ fields)
  call ← call_of disk so_far number entry
  Ok (with_call disk entry.name so_far call)

-- a fault of the line with this number
abbrev pub fault_at : ℕ → CallsReason → CallsFault
fault_at number reason = record { line = number; reason = reason }

-- the calls so far and that of the next line, which has this number; or its fault
abbrev pub next_progress : Shape → ℕ → Progress → List ℕ → Result Progress CallsFault
next_progress disk number so_far line = refused_as (fault_at number) (line_read disk number so_far (fields_of line))

-- the lines from this number on, behind those so far
unfoldable pub lines_from : Shape → ℕ → Progress → List (List ℕ) → Result Accepted CallsFault
lines_from disk number so_far [] = Ok (at_end so_far)
lines_from disk number so_far (line ∷ lines) = do
  next ← next_progress disk number so_far line
  lines_from disk (number + 1) next lines

-- the calls that a text has for a disk and a trace of this many requests, or its first faulty line
abbrev pub calls_of : Shape → ℕ → List ℕ → Result Accepted CallsFault
calls_of disk traced text = lines_from disk 1 (at_start traced) (lines_of text)
