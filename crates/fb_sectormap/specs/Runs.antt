-- Sectors that are looked up once: those of a cylinder, or neighbours in a turn of a track.
use Rattle.std.specs.Prelude.{◌≡◌, ℕ, ◌+◌, ◌<◌, ◌≤◌, length}
use Rattle.fb_geometry.specs.Shape.{Shape, slots_at, turn_position, IsTrackOf}
use Rattle.fb_geometry.specs.Places.{places, data_list_at}
use Rattle.fb_geometry.specs.Even.{IsLookedUp}
use Rattle.fb_sectormap.specs.declared.run.CylinderRun.{CylinderRun}
use Rattle.fb_sectormap.specs.declared.span.Span.{Span}
use Rattle.fb_sectormap.specs.LookUp.{place_at, track_at, neighbour}
use Rattle.fb_sectormap.specs.Cylinders.{sectors_before}

-- the run has all sectors of its cylinder, and no others
pub record IsRun (disk : Shape) (run : CylinderRun) : Type 0 where
  pub looked_up : IsLookedUp disk run.on
  pub first : run.first ≡ sectors_before disk run.on.number
  pub end : run.end ≡ run.first + length (data_list_at disk run.on.number)
  pub sectors : (lbn : ℕ) → run.first ≤ lbn → lbn < run.end → (lbn < length (places disk)) × ((track_at disk lbn).cylinder ≡ run.on.number)

-- the sectors of the span are in neighbouring slots of one turn of a track
pub record IsSpan (disk : Shape) (span : Span) : Type 0 where
  pub some : 0 < span.stretch.count
  pub on_disk : span.first + span.stretch.count ≤ length (places disk)
  pub first : span.stretch.place ≡ place_at disk span.first
  pub track : IsTrackOf disk span.stretch.place.track
  pub slot : span.stretch.place.slot < slots_at disk.zones span.stretch.place.track.cylinder
  pub next : (i : ℕ) → i < span.stretch.count → place_at disk (span.first + i) ≡ neighbour disk span.stretch.place i
  pub one_turn : turn_position disk span.stretch.place + span.stretch.count ≤ slots_at disk.zones span.stretch.place.track.cylinder
