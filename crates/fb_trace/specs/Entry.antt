-- The values of the fields of a line.
use Rattle.std.specs.Prelude.{ℕ, List, ◌∷◌, Result, Ok, Err}
use Rattle.fb_units.specs.Numbers.{millis_of, number_of, flags_of}
use Rattle.fb_trace.specs.declared.entry.Entry.{Entry}
use Rattle.fb_trace.specs.declared.trace.TraceReason.{TraceReason}
use Rattle.fb_trace.specs.declared.trace.TraceReason.TheVariants.{TooFewFields, BadTime, BadNumber}
use Rattle.fb_units.specs.Judging.{◌>>=◌, or_refuse}

-- the values of a time, a device, a first sector, a size and flags, or the first of these that isn't of its form
unfoldable pub spelled : List ℕ → List ℕ → List ℕ → List ℕ → List ℕ → Result Entry TraceReason
spelled time device block size flags = do
  arrival ← or_refuse BadTime (millis_of time)
  of_device ← or_refuse (BadNumber 2) (number_of device)
  first ← or_refuse (BadNumber 3) (number_of block)
  sectors ← or_refuse (BadNumber 4) (number_of size)
  marks ← or_refuse (BadNumber 5) (flags_of flags)
  Ok (record { arrival = arrival; device = of_device; first = first; size = sectors; flags = marks })

-- the values of the first five fields; more fields are ignored
unfoldable pub entry_of : List (List ℕ) → Result Entry TraceReason
entry_of (time ∷ device ∷ block ∷ size ∷ flags ∷ more) = spelled time device block size flags
entry_of _ = Err TooFewFields
