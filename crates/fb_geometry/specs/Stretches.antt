-- Sectors of a cylinder that come by directly one after another.
use Rattle.std.specs.Prelude.{◌≡◌, ℕ, ◌+◌, ◌*◌, ◌%◌, ◌<◌, ◌≤◌, Some, slice_get}
use Rattle.fb_geometry.specs.declared.stretch.Stretch.{Stretch}
use Rattle.fb_geometry.specs.declared.zone.Zone.{Zone}
use Rattle.fb_geometry.specs.Shape.{Shape, slots_at, turn_position, is_among}
use Rattle.fb_geometry.specs.Places.{data_list_at}
use Rattle.fb_geometry.specs.Turns.{slot_at, cylinder_slots}
use Rattle.fb_geometry.specs.Slips.{slipped, indexes}

-- so many sectors of the cylinder, from the j-th on, are in neighbouring slots of one turn of a track
pub record IsStretch (disk : Shape) (cylinder j : ℕ) (stretch : Stretch) : Type 0 where
  pub some : 0 < stretch.count
  pub first : slice_get (data_list_at disk cylinder) j ≡ Some stretch.place
  pub next : (i : ℕ) → i < stretch.count → slice_get (data_list_at disk cylinder) (j + i)
      ≡ Some (record { track = stretch.place.track; slot = (stretch.place.slot + i) % slots_at disk.zones cylinder })
  pub one_turn : turn_position disk stretch.place + stretch.count ≤ slots_at disk.zones cylinder

-- so many sectors, from the j-th on, are on slots without defects that follow one another on the cylinder
pub record KeepsOrder (disk : Shape) (zone : Zone) (cylinder j count : ℕ) : Type 0 where
  pub from : ℕ
  pub inside : slipped from (indexes (is_among disk.defects) 0 (cylinder_slots zone disk.heads cylinder)) < disk.heads * zone.sectors
  pub each : (i : ℕ) → i < count → slice_get (data_list_at disk cylinder) (j + i)
      ≡ Some (slot_at zone disk.heads cylinder
      (slipped (from + i) (indexes (is_among disk.defects) 0 (cylinder_slots zone disk.heads cylinder))))
