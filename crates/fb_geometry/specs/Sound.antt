-- What holds of every accepted outline: the facts that the layers above build on.
use Rattle.std.specs.Prelude.{◌≡◌, ℕ, ◌-◌, ◌*◌, ◌^◌, ◌<◌, ◌≤◌, length, Some, None, false, slice_get}
use Rattle.fb_units.specs.declared.types.Place.{Place}
use Rattle.fb_geometry.specs.declared.layout.Layout.{Layout}
use Rattle.fb_geometry.specs.declared.layout.Layout.TheVariants.{PerTrack, PerCylinder}
use Rattle.fb_geometry.specs.declared.zone.Zone.{Zone}
use Rattle.fb_geometry.specs.Shape.{Shape, slots_at, cylinders_of, is_among}
use Rattle.fb_geometry.specs.Places.{data_list, places}
use Rattle.fb_geometry.specs.Faults.{first_apart}

-- how many sectors each cylinder of a zone holds
abbrev pub cylinder_size_by : Layout → Shape → Zone → ℕ
cylinder_size_by PerTrack disk zone = disk.heads * (zone.sectors - zone.spares)
cylinder_size_by PerCylinder disk zone = disk.heads * zone.sectors - zone.cylinder_spares

-- the same in the disk's own layout
abbrev pub cylinder_size : Shape → Zone → ℕ
cylinder_size disk zone = cylinder_size_by disk.layout disk zone

-- the zone is the i-th of the disk, from 0, and the cylinder is one of the zone's
pub record IsCylinderOf (disk : Shape) (i : ℕ) (zone : Zone) (cylinder : ℕ) : Type 0 where
  pub zone_is : slice_get disk.zones i ≡ Some zone
  pub from : zone.first ≤ cylinder
  pub upto : cylinder ≤ zone.last

-- the place is a slot of the cylinder
pub record LiesOn (disk : Shape) (cylinder : ℕ) (place : Place) : Type 0 where
  pub cylinder_is : place.track.cylinder ≡ cylinder
  pub head : place.track.head < disk.heads
  pub slot : place.slot < slots_at disk.zones cylinder

-- what holds of an outline without a fault
pub record IsSound (disk : Shape) : Type 0 where
  pub some_rotation : 0 < disk.rotation
  pub short_rotation : disk.rotation ≤ 10 ^ 9
  pub some_heads : 0 < disk.heads
  pub few_heads : disk.heads ≤ 64
  pub some_zones : 0 < length disk.zones
  pub few_zones : length disk.zones ≤ 64
  -- each zone begins where the one before it ends
  pub contiguous : first_apart 0 0 disk.zones ≡ None
  pub some_cylinders : (i : ℕ) (zone : Zone) → slice_get disk.zones i ≡ Some zone → zone.first ≤ zone.last
  pub few_cylinders : cylinders_of disk.zones ≤ 10 ^ 6
  -- each cylinder of a zone holds the same number of sectors, at least one
  pub equal : (i : ℕ) (zone : Zone) (cylinder : ℕ) → IsCylinderOf disk i zone cylinder
      → length (data_list disk zone cylinder) ≡ cylinder_size disk zone
  pub some_data : (i : ℕ) (zone : Zone) → slice_get disk.zones i ≡ Some zone → 0 < cylinder_size disk zone
  pub few_slots : (i : ℕ) (zone : Zone) → slice_get disk.zones i ≡ Some zone → zone.sectors ≤ 10000
  pub short_slots : (i : ℕ) (zone : Zone) → slice_get disk.zones i ≡ Some zone → zone.sectors ≤ disk.rotation
  -- the places of a cylinder's data list are slots of that cylinder
  pub own : (i : ℕ) (zone : Zone) (cylinder j : ℕ) (place : Place) → IsCylinderOf disk i zone cylinder
      → slice_get (data_list disk zone cylinder) j ≡ Some place → LiesOn disk cylinder place

-- each sector has a place of its own, which is not a bad slot
pub record HasOwnPlaces (disk : Shape) : Type 0 where
  pub once : (i j : ℕ) (place : Place) → slice_get (places disk) i ≡ Some place → slice_get (places disk) j ≡ Some place → i ≡ j
  pub no_defect : (i : ℕ) (place : Place) → slice_get (places disk) i ≡ Some place → is_among disk.defects place ≡ false
  pub no_grown : (i : ℕ) (place : Place) → slice_get (places disk) i ≡ Some place → is_among disk.grown place ≡ false
