-- The values of the fields of a line.
use Rattle.std.specs.Prelude.{ℕ, List, [], ◌∷◌, not, codes, Result, Ok, Err}
use Rattle.std.specs.Str.{bytes_eq}
use Rattle.fb_units.specs.Judging.{◌>>=◌, ◌>>◌, or_refuse, refuse}
use Rattle.fb_units.specs.Numbers.{millis_of, number_of}
use Rattle.fb_puts.specs.declared.fault.PutsReason.{PutsReason}
use Rattle.fb_puts.specs.declared.fault.PutsReason.TheVariants.{BadLine, BadTime, BadNumber}
use Rattle.fb_puts.specs.declared.puts.Put.{Put}
use Rattle.fb_puts.specs.declared.range.SectorRange.{SectorRange}

-- the number in a field; fields are counted from 1
abbrev pub number : ℕ → List ℕ → Result ℕ PutsReason
number field text = or_refuse (BadNumber field) (number_of text)

-- the range of the reserve
unfoldable pub reserve_of : List (List ℕ) → Result SectorRange PutsReason
reserve_of (word ∷ first_text ∷ count_text ∷ []) = do
  refuse BadLine (not (bytes_eq word (codes "reserve")))
  first ← number 2 first_text
  count ← number 3 count_text
  Ok (record { first = first; count = count })
reserve_of _ = Err BadLine

-- the instant and the range of a put
unfoldable pub put_of : List (List ℕ) → Result Put PutsReason
put_of (time ∷ word ∷ first_text ∷ count_text ∷ []) = do
  refuse BadLine (not (bytes_eq word (codes "put")))
  instant ← or_refuse BadTime (millis_of time)
  first ← number 3 first_text
  count ← number 4 count_text
  Ok (record { instant = instant; first = first; count = count })
put_of _ = Err BadLine
