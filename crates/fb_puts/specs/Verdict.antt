-- What the result of reading says of the text.
use Rattle.std.specs.Prelude.{◌≡◌, Result, Ok, Err}
pub use Rattle.fb_units.specs.Reading.{Answers}
use Rattle.fb_puts.specs.declared.puts.Puts.{Puts}
use Rattle.fb_puts.specs.Reading.{Accepted}
use Rattle.fb_puts.specs.declared.range.SectorRange.{SectorRange}

-- the reserve of puts
abbrev pub reserve : Puts → SectorRange
reserve puts = record { first = puts.first; count = puts.count }

-- the value of a puts file
abbrev pub accepted : Puts → Accepted
accepted puts = record { reserve = reserve puts; puts = puts.puts.items }

-- the result of a step that doesn't allocate is the verdict
abbrev pub Agrees : {A B E : Type 0} → (A → B) → Result A E → Result B E → Type 0
Agrees seen (Ok a) verdict = verdict ≡ Ok (seen a)
Agrees seen (Err reason) verdict = verdict ≡ Err reason
