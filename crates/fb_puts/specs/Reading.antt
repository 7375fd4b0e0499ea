-- Reading a puts file, line by line.
use Rattle.std.specs.Prelude.{ℕ, ◌+◌, ◌*◌, ◌^◌, List, [], ◌∷◌, ◌++◌, length, not, ◌==◌, nat_le, nat_lt, map, Option, Some, None, Result, Ok}
use Rattle.std.specs.List.{list_any}
use Rattle.fb_units.specs.Judging.{◌>>=◌, ◌>>◌, refuse, refused_as}
use Rattle.fb_units.specs.Lines.{lines_of, fields_of}
use Rattle.fb_puts.specs.declared.fault.PutsFault.{PutsFault}
use Rattle.fb_puts.specs.declared.fault.PutsReason.{PutsReason}
use Rattle.fb_puts.specs.declared.fault.PutsReason.TheVariants.{OutOfOrder, Empty, BeyondDisk, TooLarge, Touched, OutsideReserve, PutTwice}
use Rattle.fb_puts.specs.declared.fault.PutsReason.TheVariants.{TooMany}
use Rattle.fb_puts.specs.declared.puts.Put.{Put}
use Rattle.fb_puts.specs.declared.range.SectorRange.{SectorRange}
use Rattle.fb_puts.specs.Line.{reserve_of, put_of}
use Rattle.fb_puts.specs.Ranges.{lies_in, share}

-- what a puts file is judged by: the disk's number of sectors, and the ranges that the trace and the script ask for
pub record Terms : Type 0 where
  pub sectors : ℕ
  pub asked : List SectorRange

-- the reserve, once there was its line, the instant of the last put, and the puts so far
pub record Progress : Type 0 where
  pub reserve : Option SectorRange
  pub instant : ℕ
  pub puts : List Put

-- the reserve and the puts
pub record Accepted : Type 0 where
  pub reserve : SectorRange
  pub puts : List Put

-- the sectors of a put
abbrev pub range_of : Put → SectorRange
range_of put = record { first = put.first; count = put.count }

-- Ok if a range has sectors, and all of them are on the disk
abbrev pub some_on_disk : ℕ → SectorRange → Result (Unit {0}) PutsReason
some_on_disk sectors range = do
  refuse Empty (range.count == 0)
  refuse BeyondDisk (nat_lt sectors (range.first + range.count))

-- the reserve, or the first reason why it may not be one
unfoldable pub judged_reserve : Terms → SectorRange → Result SectorRange PutsReason
judged_reserve terms range = do
  some_on_disk terms.sectors range
  refuse TooLarge (nat_lt (16 * 10 ^ 6) range.count)
  refuse Touched (list_any (share range) terms.asked)
  Ok range

-- the put, if it lies in the reserve apart from those so far; or the first reason why not
unfoldable pub free_put : SectorRange → List Put → Put → Result Put PutsReason
free_put reserve puts put = do
  refuse OutsideReserve (not (lies_in (range_of put) reserve))
  refuse PutTwice (list_any (share (range_of put)) (map range_of puts))
  refuse TooMany (nat_le (10 ^ 5) (length puts))
  Ok put

-- the put, or the first reason why it may not follow those so far
unfoldable pub judged_put : Terms → SectorRange → ℕ → List Put → Put → Result Put PutsReason
judged_put terms reserve instant puts put = do
  refuse OutOfOrder (nat_lt put.instant instant)
  some_on_disk terms.sectors (range_of put)
  free_put reserve puts put

-- the lines so far and the one of the reserve
abbrev pub with_reserve : Progress → SectorRange → Progress
with_reserve so_far reserve = record { reserve = Some reserve; instant = so_far.instant; puts = so_far.puts }

-- the lines so far and one of a put
abbrev pub with_put : Progress → Put → Progress
with_put so_far put = record { reserve = so_far.reserve; instant = put.instant; puts = so_far.puts ++ put ∷ [] }

-- the lines so far and one with these fields: the first is that of the reserve, and the others are puts
unfoldable pub line_read : Terms → Option SectorRange → Progress → List (List ℕ) → Result Progress PutsReason
line_read terms None so_far fields = do
  range ← reserve_of fields
  reserve ← judged_reserve terms range
  Ok (with_reserve so_far reserve)
line_read terms (Some reserve) so_far fields = do
  read ← put_of fields
  put ← judged_put terms reserve so_far.instant so_far.puts read
  Ok (with_put so_far put)

-- a line without fields is blank
abbrev pub next_read : Terms → Progress → List (List ℕ) → Result Progress PutsReason
next_read terms so_far [] = Ok so_far
next_read terms so_far (field ∷ fields) = line_read terms so_far.reserve so_far (field ∷ fields)

-- a fault of the line with this number
abbrev pub fault_at : ℕ → PutsReason → PutsFault
fault_at number reason = record { line = number; reason = reason }

-- the lines so far and the next one, which has this number; or its fault
abbrev pub next_progress : Terms → ℕ → Progress → List ℕ → Result Progress PutsFault
next_progress terms number so_far line = refused_as (fault_at number) (next_read terms so_far (fields_of line))

-- before the first line
abbrev pub at_start : Progress
at_start = record { reserve = None; instant = 0; puts = [] }

-- a file without lines has an empty reserve
abbrev pub reserve_or_none : Option SectorRange → SectorRange
reserve_or_none None = record { first = 0; count = 0 }
reserve_or_none (Some reserve) = reserve

-- at the end of the text
abbrev pub at_end : Progress → Accepted
at_end so_far = record { reserve = reserve_or_none so_far.reserve; puts = so_far.puts }

-- the lines from this number on, behind those so far
unfoldable pub lines_from : Terms → ℕ → Progress → List (List ℕ) → Result Accepted PutsFault
lines_from terms number so_far [] = Ok (at_end so_far)
lines_from terms number so_far (line ∷ lines) = do
  next ← next_progress terms number so_far line
  lines_from terms (number + 1) next lines

-- the puts that a text has, or its first faulty line
abbrev pub puts_of : Terms → List ℕ → Result Accepted PutsFault
puts_of terms text = lines_from terms 1 at_start (lines_of text)
