-- Disks of four cylinders and two heads, most of them with twelve slots a track.
use Rattle.std.specs.Prelude.{ℕ, List, [], ◌∷◌}
use Rattle.std.proofs.Common.{refl, lit≤, lit<}
use Rattle.fb_units.specs.declared.types.Place.{Place}
use Rattle.fb_geometry.specs.declared.layout.Layout.{Layout}
use Rattle.fb_geometry.specs.declared.layout.Layout.TheVariants.{PerTrack, PerCylinder}
use Rattle.fb_geometry.specs.declared.zone.Zone.{Zone}
use Rattle.fb_geometry.specs.Shape.{Shape}
use Rattle.fb_geometry.specs.Places.{places}
use Rattle.fb_seek.specs.declared.point.SeekPoint.{SeekPoint}
use Rattle.fb_seek.specs.Mechanics.{Mechanics}
use Rattle.fb_service.specs.declared.disk.Disk.{Disk}
use Rattle.by_hand.specs.Rows.{at}

-- one zone of all cylinders: slots on each track, skew from track to track, spares of a track and of a cylinder
abbrev pub zone : ℕ → ℕ → ℕ → ℕ → Zone
zone sectors skew spares cylinder_spares = record {
  first = 0;
  last = 3;
  sectors = sectors;
  track_skew = skew;
  cylinder_skew = 0;
  spares = spares;
  cylinder_spares = cylinder_spares;
}

abbrev pub outline : Layout → Zone → List Place → List Place → Shape
outline layout zone defects grown =
    record { layout = layout; rotation = 1200; heads = 2; zones = zone ∷ []; defects = defects; grown = grown }

abbrev pub arm : List SeekPoint → Mechanics
arm points = record { points = points; cylinders = 4; head_switch = 200; write_settle = 50 }

abbrev pub slow_arm : Mechanics
slow_arm = arm (record { distance = 1; time = 300 } ∷ record { distance = 3; time = 500 } ∷ [])

-- two moves of one cylinder take less time than one move of two cylinders
abbrev pub quick_arm : Mechanics
quick_arm = arm (record { distance = 1; time = 100 } ∷ record { distance = 2; time = 400 } ∷ record { distance = 3; time = 400 } ∷ [])

-- twelve sectors on each track
unfoldable pub small_disk : Disk
unfolding places
small_disk = record {
  map = outline PerTrack (zone 12 0 0 0) [] [];
  mechanism = slow_arm;
  sector_bytes = 16;
  same_cylinders = refl;
  some_cylinders = lit< tt;
  some_heads = lit< tt;
  some_rotation = lit< tt;
  short_rotation = lit≤ tt;
  few_blocks = lit≤ tt;
  whole_sectors = refl;
  some_bytes = lit≤ tt;
  few_bytes = lit≤ tt;
}

-- the same with quick steps
unfoldable pub quick_disk : Disk
unfolding places
quick_disk = record {
  map = outline PerTrack (zone 12 0 0 0) [] [];
  mechanism = quick_arm;
  sector_bytes = 16;
  same_cylinders = refl;
  some_cylinders = lit< tt;
  some_heads = lit< tt;
  some_rotation = lit< tt;
  short_rotation = lit≤ tt;
  few_blocks = lit≤ tt;
  whole_sectors = refl;
  some_bytes = lit≤ tt;
  few_bytes = lit≤ tt;
}

-- seven slots, which don't divide the rotation
unfoldable pub uneven_disk : Disk
unfolding places
uneven_disk = record {
  map = outline PerTrack (zone 7 0 0 0) [] [];
  mechanism = slow_arm;
  sector_bytes = 16;
  same_cylinders = refl;
  some_cylinders = lit< tt;
  some_heads = lit< tt;
  some_rotation = lit< tt;
  short_rotation = lit≤ tt;
  few_blocks = lit≤ tt;
  whole_sectors = refl;
  some_bytes = lit≤ tt;
  few_bytes = lit≤ tt;
}

-- one slot, which passes for a whole rotation
unfoldable pub one_sector_disk : Disk
unfolding places
one_sector_disk = record {
  map = outline PerTrack (zone 1 0 0 0) [] [];
  mechanism = slow_arm;
  sector_bytes = 16;
  same_cylinders = refl;
  some_cylinders = lit< tt;
  some_heads = lit< tt;
  some_rotation = lit< tt;
  short_rotation = lit≤ tt;
  few_blocks = lit≤ tt;
  whole_sectors = refl;
  some_bytes = lit≤ tt;
  few_bytes = lit≤ tt;
}

-- the second track begins two slots later than the first
unfoldable pub skewed_disk : Disk
unfolding places
skewed_disk = record {
  map = outline PerTrack (zone 12 2 0 0) [] [];
  mechanism = slow_arm;
  sector_bytes = 16;
  same_cylinders = refl;
  some_cylinders = lit< tt;
  some_heads = lit< tt;
  some_rotation = lit< tt;
  short_rotation = lit≤ tt;
  few_blocks = lit≤ tt;
  whole_sectors = refl;
  some_bytes = lit≤ tt;
  few_bytes = lit≤ tt;
}

-- the second track begins with its last slot
unfoldable pub turned_disk : Disk
unfolding places
turned_disk = record {
  map = outline PerTrack (zone 12 11 0 0) [] [];
  mechanism = slow_arm;
  sector_bytes = 16;
  same_cylinders = refl;
  some_cylinders = lit< tt;
  some_heads = lit< tt;
  some_rotation = lit< tt;
  short_rotation = lit≤ tt;
  few_blocks = lit≤ tt;
  whole_sectors = refl;
  some_bytes = lit≤ tt;
  few_bytes = lit≤ tt;
}

-- two spares on each track, and a defect
unfoldable pub slipped_disk : Disk
unfolding places
slipped_disk = record {
  map = outline PerTrack (zone 12 0 2 0) (record { track = at 0 0; slot = 3 } ∷ []) [];
  mechanism = slow_arm;
  sector_bytes = 16;
  same_cylinders = refl;
  some_cylinders = lit< tt;
  some_heads = lit< tt;
  some_rotation = lit< tt;
  short_rotation = lit≤ tt;
  few_blocks = lit≤ tt;
  whole_sectors = refl;
  some_bytes = lit≤ tt;
  few_bytes = lit≤ tt;
}

-- two spares at the end of each cylinder, and a slot that went bad later
unfoldable pub remapped_disk : Disk
unfolding places
remapped_disk = record {
  map = outline PerCylinder (zone 12 0 0 2) [] (record { track = at 0 0; slot = 3 } ∷ []);
  mechanism = slow_arm;
  sector_bytes = 16;
  same_cylinders = refl;
  some_cylinders = lit< tt;
  some_heads = lit< tt;
  some_rotation = lit< tt;
  short_rotation = lit≤ tt;
  few_blocks = lit≤ tt;
  whole_sectors = refl;
  some_bytes = lit≤ tt;
  few_bytes = lit≤ tt;
}
