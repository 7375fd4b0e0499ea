-- What the reader holds of the lines so far, as the values of the definitions.
use Rattle.std.specs.Prelude.{◌≡◌, ◌+◌, ◌*◌, ◌^◌, ◌<◌, ◌≤◌, List, [], length, map, false, None}
use Rattle.std.specs.List.{AllByRecursion, list_any}
use Rattle.fb_units.specs.Rising.{IsRising}
use Rattle.fb_script.specs.Allowed.{tasks}
use Rattle.fb_puts.specs.declared.puts.Put.{Put}
use Rattle.fb_puts.specs.declared.range.SectorRange.{SectorRange}
use Rattle.fb_puts.specs.declared.reader.Reader.{Reader}
use Rattle.fb_puts.specs.declared.reader.Step.{Step}
use Rattle.fb_puts.specs.declared.reader.Step.TheVariants.{Blank, Reserve, Put as PutStep}
use Rattle.fb_puts.specs.declared.reader.Terms.{Terms}
use Rattle.fb_puts.specs.Asked.{asked}
use Rattle.fb_puts.specs.Ranges.{share}
use Rattle.fb_puts.specs.Reading as reading
use Rattle.fb_puts.specs.Reading.{Progress, range_of, reserve_or_none, with_put, with_reserve}
use Rattle.fb_puts.specs.Rules.{IsPutOf}
use Rattle.fb_puts.specs.Taken.{HasTaken, IsKnown}

-- what puts are judged by
abbrev pub terms_of : Terms → reading.Terms
terms_of terms = record { sectors = terms.sectors; asked = asked terms.trace.now.requests.items terms.calls.now.calls.items }

-- the block sizes are those of the tasks
pub record AreTerms (terms : Terms) : Type 0 where
  pub sizes : terms.sizes.items ≡ map (λ task. task.block) (tasks terms.calls.now.calls.items)

-- the numbers of a range are within the limit
pub record IsWithin (range : SectorRange) : Type 0 where
  pub first : range.first ≤ 10 ^ 15
  pub count : range.count ≤ 10 ^ 15

-- the lines so far
abbrev pub progress : Reader → Progress
progress reader = record { reserve = reader.reserve; instant = reader.instant; puts = reader.puts.items }

-- the lines so far and what one more adds
abbrev pub with_step : Progress → Step → Progress
with_step so_far Blank = so_far
with_step so_far (Reserve reserve) = with_reserve so_far reserve
with_step so_far (PutStep put) = with_put so_far put

-- the range may be the reserve
pub record IsNextReserve (terms : reading.Terms) (reserve : SectorRange) : Type 0 where
  pub first : reserve.first ≤ 10 ^ 15
  pub on_disk : reserve.first + reserve.count ≤ terms.sectors
  pub few : reserve.count ≤ 16 * 10 ^ 6
  pub untouched : AllByRecursion (λ range. share reserve range ≡ false) terms.asked

-- the put may follow those so far
pub record IsNextPut (terms : reading.Terms) (reader : Reader) (put : Put) : Type 0 where
  pub is : IsPutOf (reserve_or_none reader.reserve) put
  pub on_disk : put.first + put.count ≤ terms.sectors
  pub later : reader.instant ≤ put.instant
  pub apart : IsKnown reader.taken → list_any (share (range_of put)) (map range_of reader.puts.items) ≡ false
  pub few : length reader.puts.items < 10 ^ 5

-- what a line adds may come next
abbrev pub MayFollow : reading.Terms → Reader → Step → Type 0
MayFollow terms reader Blank = Unit {0}
MayFollow terms reader (Reserve reserve) = (reader.reserve ≡ None) × IsNextReserve terms reserve
MayFollow terms reader (PutStep put) = IsNextPut terms reader put

-- what a line adds shares no sector with these puts
abbrev pub IsApart : List Put → Step → Type 0
IsApart puts Blank = Unit {0}
IsApart puts (Reserve reserve) = Unit {0}
IsApart puts (PutStep put) = list_any (share (range_of put)) (map range_of puts) ≡ false

-- the reserve may be one, the puts lie in it, in order, and if their sectors are known, apart
pub record IsReader (terms : reading.Terms) (reader : Reader) : Type 0 where
  pub reserve : IsNextReserve terms (reserve_or_none reader.reserve)
  pub none : reader.reserve ≡ None → reader.puts.items ≡ []
  pub each : AllByRecursion (IsPutOf (reserve_or_none reader.reserve)) reader.puts.items
  pub rising : IsRising (map (λ put. put.instant) reader.puts.items)
  pub last : AllByRecursion (λ instant. instant ≤ reader.instant) (map (λ put. put.instant) reader.puts.items)
  pub few : length reader.puts.items ≤ 10 ^ 5
  pub taken : HasTaken reader.taken (map range_of reader.puts.items)
