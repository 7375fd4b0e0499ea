-- What every puts file that was read obeys.
use Rattle.std.specs.Prelude.{◌≡◌, ℕ, ◌+◌, ◌*◌, ◌^◌, ◌<◌, ◌≤◌, true, length, map}
use Rattle.std.specs.List.{AllByRecursion}
use Rattle.fb_units.specs.Rising.{IsRising}
use Rattle.fb_puts.specs.declared.puts.Put.{Put}
use Rattle.fb_puts.specs.declared.range.SectorRange.{SectorRange}
use Rattle.fb_puts.specs.Ranges.{lies_in, AreApart}
use Rattle.fb_puts.specs.Reading.{Accepted, range_of}

-- a put of the reserve
pub record IsPutOf (reserve : SectorRange) (put : Put) : Type 0 where
  pub instant : put.instant ≤ 10 ^ 15
  pub some : 0 < put.count
  pub inside : lies_in (range_of put) reserve ≡ true

-- a reserve on a disk of this many sectors, which may be empty, and its puts in order, no two of which share a sector
pub record ArePuts (sectors : ℕ) (accepted : Accepted) : Type 0 where
  pub on_disk : accepted.reserve.first + accepted.reserve.count ≤ sectors
  pub few_sectors : accepted.reserve.count ≤ 16 * 10 ^ 6
  pub each : AllByRecursion (IsPutOf accepted.reserve) accepted.puts
  pub rising : IsRising (map (λ put. put.instant) accepted.puts)
  pub apart : AreApart (map range_of accepted.puts)
  pub few : length accepted.puts ≤ 10 ^ 5
