-- What a line adds to the trace of a device.
use Rattle.std.specs.Prelude.{ℕ, ◌+◌, ◌%◌, ◌==◌, nat_lt, List, [], ◌∷◌, Option, Some, None, Result, Ok, if◌then◌else◌}
use Rattle.fb_units.specs.declared.types.Request.{Request}
use Rattle.fb_units.specs.declared.types.Name.TheVariants.{Traced}
use Rattle.fb_trace.specs.declared.entry.Entry.{Entry}
use Rattle.fb_trace.specs.declared.reader.Line.{Line}
use Rattle.fb_trace.specs.declared.reader.Line.TheVariants.{Blank, PassedOver, Asked}
use Rattle.fb_trace.specs.declared.trace.TraceReason.{TraceReason}
use Rattle.fb_trace.specs.declared.trace.TraceReason.TheVariants.{OutOfOrder, Empty, TooLarge, BeyondDisk, TooMany}
use Rattle.fb_units.specs.Judging.{◌>>=◌, ◌>>◌, refuse}
use Rattle.fb_trace.specs.Entry.{entry_of}

-- the request with this number that an entry asks for, on a disk of this many sectors
unfoldable pub request_of : ℕ → ℕ → Entry → Result Request TraceReason
request_of sectors number entry = do
  refuse Empty (entry.size == 0)
  refuse TooLarge (nat_lt 2048 entry.size)
  refuse BeyondDisk (nat_lt sectors (entry.first + entry.size))
  refuse TooMany (nat_lt 1000000 number)
  Ok (record { name = Traced number; arrival = entry.arrival; lbn = entry.first; count = entry.size; write = entry.flags % 2 == 0 })

-- the request that an entry asks for, or one that is passed over if it is for another device
unfoldable pub of_device : ℕ → ℕ → ℕ → Entry → Result Line TraceReason
of_device device sectors number entry =
    if entry.device == device
    then request_of sectors number entry >>= (λ request. Ok (Asked request))
    else Ok (PassedOver entry.arrival)

-- the entry of a line that may not arrive before this instant; a line without fields is blank, and has none
abbrev pub entry_after : ℕ → List (List ℕ) → Result (Option Entry) TraceReason
entry_after instant [] = Ok None
entry_after instant (field ∷ fields) = do
  entry ← entry_of (field ∷ fields)
  refuse OutOfOrder (nat_lt entry.arrival instant)
  Ok (Some entry)

-- what the entry of a line adds
unfoldable pub added_by : ℕ → ℕ → ℕ → Option Entry → Result Line TraceReason
added_by device sectors number None = Ok Blank
added_by device sectors number (Some entry) = of_device device sectors number entry

-- what a line adds; it may not arrive before the instant of the line before it that isn't blank
unfoldable pub line_of : ℕ → ℕ → ℕ → ℕ → List (List ℕ) → Result Line TraceReason
line_of device sectors instant number fields = entry_after instant fields >>= added_by device sectors number
