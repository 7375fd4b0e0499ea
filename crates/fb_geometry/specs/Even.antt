-- A cylinder that is looked up once: where its sectors are, if none of its slots is bad.
use Rattle.std.specs.Prelude.{◌≡◌, ℕ, ◌+◌, ◌-◌, ◌*◌, ◌/◌, ◌%◌, ◌<◌, ◌≤◌, [], length, Some, true, slice_get}
use Rattle.fb_units.specs.declared.types.Place.{Place}
use Rattle.fb_geometry.specs.declared.layout.Layout.{Layout}
use Rattle.fb_geometry.specs.declared.layout.Layout.TheVariants.{PerTrack, PerCylinder}
use Rattle.fb_geometry.specs.declared.zone.Zone.{Zone}
use Rattle.fb_geometry.specs.declared.cylinder.Cylinder.{Cylinder}
use Rattle.fb_geometry.specs.Shape.{Shape, cylinders_of, slots_at, is_among}
use Rattle.fb_geometry.specs.Places.{data_list_at, by_head, good_track}
use Rattle.fb_geometry.specs.Turns.{cylinder_slots}
use Rattle.fb_geometry.specs.Slips.{indexes}

-- the place of the j-th sector: sectors fill track by track, so many on each, round from the slot from which the track is counted
abbrev pub even_place : Cylinder → ℕ → Place
even_place on j = record {
  track = record { cylinder = on.number; head = j / on.sectors };
  slot = (on.offset + j / on.sectors * on.skew + j % on.sectors) % on.slots;
}

-- each sector of the cylinder has that place
pub record IsEven (disk : Shape) (on : Cylinder) : Type 0 where
  pub some_sectors : 0 < on.sectors
  pub some_slots : 0 < on.slots
  pub few_slots : on.slots ≤ 10000
  pub few_sectors : on.sectors ≤ on.slots
  pub offset : on.offset < on.slots
  pub skew : on.skew < on.slots
  pub heads : (j : ℕ) → j < length (data_list_at disk on.number) → j / on.sectors < 64
  pub each : (j : ℕ) → j < length (data_list_at disk on.number) → slice_get (data_list_at disk on.number) j ≡ Some (even_place on j)

-- the cylinder is one of the disk's, with its slots a track, and if it is marked as even each of its sectors has that place
pub record IsLookedUp (disk : Shape) (on : Cylinder) : Type 0 where
  pub on_disk : on.number < cylinders_of disk.zones
  pub slots : on.slots ≡ slots_at disk.zones on.number
  pub even : on.even ≡ true → IsEven disk on

-- no slot of the cylinder is bad
pub record HasNoBad (disk : Shape) (zone : Zone) (cylinder : ℕ) : Type 0 where
  pub defects : indexes (is_among disk.defects) 0 (cylinder_slots zone disk.heads cylinder) ≡ []
  pub grown : indexes (is_among disk.grown) 0 (by_head disk cylinder (good_track disk zone)) ≡ []

-- how many sectors each track of such a cylinder has
abbrev pub sectors_by : Layout → Zone → ℕ
sectors_by PerTrack zone = zone.sectors - zone.spares
sectors_by PerCylinder zone = zone.sectors
