-- The value of a file: its numbers, and what they describe.
use Rattle.std.specs.Prelude.{ℕ, List, [], map, codes, slice_index}
use Rattle.std.specs.List.{fold}
use Rattle.std.specs.Ordering.{nat_cmp}
use Rattle.std.specs.BTreeSet.{insert_key}
use Rattle.toml.specs.Data.{Data, Members}
use Rattle.fb_units.specs.declared.types.Place.{Place}
use Rattle.fb_geometry.specs.declared.layout.Layout.{Layout}
use Rattle.fb_geometry.specs.declared.layout.Layout.TheVariants.{PerTrack, PerCylinder}
use Rattle.fb_geometry.specs.declared.zone.Zone.{Zone}
use Rattle.fb_geometry.specs.Shape.{Shape}
use Rattle.fb_seek.specs.declared.point.SeekPoint.{SeekPoint}
use Rattle.fb_seek.specs.Mechanics.{Mechanics}
use Rattle.fb_params.specs.Tables.{elements, number_of, number_at, elements_at, zones_of}

-- the i-th number of a row, from 0
abbrev pub nth : ℕ → Data → ℕ
nth i row = slice_index (map number_of (elements row)) i

-- the place of a row of cylinder, head and slot
abbrev pub place_of : Data → Place
place_of row = record { track = record { cylinder = nth 0 row; head = nth 1 row }; slot = nth 2 row }

-- the seek point of a row of distance and time
abbrev pub point_of : Data → SeekPoint
point_of row = record { distance = nth 0 row; time = nth 1 row }

-- the zone of a table, with this many spares on each track and on each cylinder
abbrev pub zone_with : ℕ → ℕ → Members → Zone
zone_with spares cylinder_spares table = record {
  first = number_at (codes "first") table;
  last = number_at (codes "last") table;
  sectors = number_at (codes "sectors") table;
  track_skew = number_at (codes "track_skew") table;
  cylinder_skew = number_at (codes "cylinder_skew") table;
  spares = spares;
  cylinder_spares = cylinder_spares;
}

-- the zone of a table, with its spares of the layout
abbrev pub zone_of : Layout → Members → Zone
zone_of PerTrack table = zone_with (number_at (codes "spares") table) 0 table
zone_of PerCylinder table = zone_with 0 (number_at (codes "cylinder_spares") table) table

-- the grown defects, which only a file with spares per cylinder has
abbrev pub grown_of : Layout → Members → List Place
grown_of PerTrack table = []
grown_of PerCylinder table = map place_of (elements_at (codes "grown") table)

-- the outline, with zones and places in the order of the file
abbrev pub outline_of : Layout → Members → Shape
outline_of layout table = record {
  layout = layout;
  rotation = number_at (codes "rotation_ns") table;
  heads = number_at (codes "heads") table;
  zones = map (zone_of layout) (zones_of table);
  defects = map place_of (elements_at (codes "defects") table);
  grown = grown_of layout table;
}

-- the arm, for a disk of this many cylinders
abbrev pub mechanics_of : ℕ → Members → Mechanics
mechanics_of cylinders table = record {
  points = map point_of (elements_at (codes "seek") table);
  cylinders = cylinders;
  head_switch = number_at (codes "head_switch_ns") table;
  write_settle = number_at (codes "write_settle_ns") table;
}

-- the latent sectors in the order of the file
abbrev pub listed_latent : Members → List ℕ
listed_latent table = map number_of (elements_at (codes "latent") table)

-- the numbers in ascending order, each once
abbrev pub ascending : List ℕ → List ℕ
ascending numbers = fold (insert_key nat_cmp) [] numbers

-- the outline and the arm of a disk, how many bytes a sector has, and the latent sectors
pub record ParamsValue : Type 0 where
  pub outline : Shape
  pub mechanics : Mechanics
  pub sector_bytes : ℕ
  pub latent : List ℕ
