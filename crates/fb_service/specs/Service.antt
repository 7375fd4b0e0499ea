-- A request is served sector by sector.
use Rattle.std.specs.Prelude.{ℕ, zero, suc, ◌+◌, ◌<◌, ◌≤◌, List, [], ◌∷◌, length, Bool}
use Rattle.fb_units.specs.declared.types.Track.{Track}
use Rattle.fb_geometry.specs.Shape.{Shape}
use Rattle.fb_geometry.specs.Places.{places}
use Rattle.fb_sectormap.specs.LookUp.{place_at, track_at}
use Rattle.fb_seek.specs.Positioning.{pos}
use Rattle.fb_service.specs.declared.disk.Disk.{Disk}
use Rattle.fb_service.specs.declared.passage.Passage.{Passage}
use Rattle.fb_service.specs.Passing.{begin_from, end_from}

-- the first passage of a sector from t on
abbrev pub passage_from : Shape → ℕ → ℕ → Passage
passage_from disk lbn t = record { lbn = lbn; begin = begin_from disk (place_at disk lbn) t; end = end_from disk (place_at disk lbn) t }

-- the passages of n sectors from lbn on: each is the first after the end of the one before it and the way to its track
unfoldable pub passages : Disk → Track → ℕ → Bool → ℕ → ℕ → List Passage
passages disk source now write lbn zero = []
passages disk source now write lbn (suc n) =
    let passage = passage_from disk.map lbn (now + pos disk.mechanism source (track_at disk.map lbn) write) in
    passage ∷ passages disk (track_at disk.map lbn) passage.end write (lbn + 1) n

-- at least one sector and at most 2,048, all of them on the disk
pub record IsAccess (disk : Shape) (lbn count : ℕ) : Type 0 where
  pub some : 0 < count
  pub few : count ≤ 2048
  pub inside : lbn + count ≤ length (places disk)

-- the instant at which the first passage begins
abbrev pub media_of : List Passage → ℕ
media_of [] = 0
media_of (passage ∷ passages) = passage.begin

-- the instant at which the last passage ends; t if there is none
abbrev pub finish_of : ℕ → List Passage → ℕ
finish_of t [] = t
finish_of t (passage ∷ passages) = finish_of passage.end passages
