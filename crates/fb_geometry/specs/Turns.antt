-- Positions on a cylinder: head by head, the slots of each track in the order of its turn.
use Rattle.std.specs.Prelude.{ℕ, ◌+◌, ◌-◌, ◌*◌, ◌/◌, ◌%◌, ◌<◌, ◌≤◌, ◌^◌, ◌≡◌, List, length, map, find, slice_get, nat_le, Option, Some}
use Rattle.std.specs.Prelude.{None, false}
use Rattle.std.specs.List.{range_with_len, slice_index_or}
use Rattle.fb_units.specs.declared.types.Place.{Place}
use Rattle.fb_units.specs.declared.types.Track.{Track}
use Rattle.fb_geometry.specs.declared.zone.Zone.{Zone}
use Rattle.fb_geometry.specs.Shape.{Shape, cylinders_of, offset_in}
use Rattle.fb_geometry.specs.Faults.{has_no_data, spare_fault}

-- the numbers of a zone are in their ranges
pub record IsZone (zone : Zone) : Type 0 where
  pub some_sectors : 0 < zone.sectors
  pub few_sectors : zone.sectors ≤ 10000
  pub some_cylinders : zone.first ≤ zone.last
  pub few_cylinders : zone.last < 10 ^ 6
  pub track_skew : zone.track_skew < zone.sectors
  pub cylinder_skew : zone.cylinder_skew < zone.sectors

-- the zone of a cylinder
abbrev pub zone_at : List Zone → ℕ → Option Zone
zone_at zones cylinder = find (λ zone. nat_le cylinder zone.last) zones

-- the number is the index of the cylinder's zone
abbrev pub IsZoneNumber : List Zone → ℕ → ℕ → Type 0
IsZoneNumber zones cylinder number = (number < length zones) × (zone_at zones cylinder ≡ slice_get zones number)

-- these are the indexes of the zones of so many first cylinders, in the order of cylinders
abbrev pub AreFirstZoneNumbers : List Zone → List ℕ → ℕ → Type 0
AreFirstZoneNumbers zones numbers cylinders = (length numbers ≡ cylinders)
    × ((cylinder d : ℕ) → cylinder < length numbers → IsZoneNumber zones cylinder (slice_index_or numbers cylinder d))

-- these are the indexes of the zones of all cylinders, in the order of cylinders
abbrev pub AreZoneNumbers : List Zone → List ℕ → Type 0
AreZoneNumbers zones numbers = AreFirstZoneNumbers zones numbers (cylinders_of zones)

-- the zone is that of the cylinder, with its numbers in their ranges
pub record IsZoneOf (disk : Shape) (cylinder : ℕ) (zone : Zone) : Type 0 where
  pub found : zone_at disk.zones cylinder ≡ Some zone
  pub ranges : IsZone zone
  pub from : zone.first ≤ cylinder
  pub upto : cylinder ≤ zone.last

-- the zone is that of the cylinder, with its numbers in their ranges, it has sectors for data, and the disk's spares are enough
pub record IsZoneAt (disk : Shape) (cylinder : ℕ) (zone : Zone) : Type 0 where
  pub found : zone_at disk.zones cylinder ≡ Some zone
  pub ranges : IsZone zone
  pub from : zone.first ≤ cylinder
  pub upto : cylinder ≤ zone.last
  pub short : zone.sectors ≤ disk.rotation
  pub holds_data : has_no_data disk.layout disk zone ≡ false
  pub enough_spares : spare_fault disk.layout disk ≡ None

-- the position of a place: how many slots of its cylinder come before it
abbrev pub position_in : Zone → ℕ → Place → ℕ
position_in zone heads place =
    place.track.head * zone.sectors + (place.slot + zone.sectors - offset_in zone heads place.track) % zone.sectors

-- the place at a position of a cylinder
abbrev pub slot_at : Zone → ℕ → ℕ → ℕ → Place
slot_at zone heads cylinder position =
    let track : Track = record { cylinder = cylinder; head = position / zone.sectors } in
    record { track = track; slot = (offset_in zone heads track + position % zone.sectors) % zone.sectors }

-- all slots of a cylinder, in the order of their positions
abbrev pub cylinder_slots : Zone → ℕ → ℕ → List Place
cylinder_slots zone heads cylinder = map (slot_at zone heads cylinder) (range_with_len 0 (heads * zone.sectors))
