-- The outline of a disk. Zones, skews and defects: Ruemmler and Wilkes, "An introduction to disk drive modeling", 1994.
use Rattle.std.specs.Prelude.{ℕ, ◌+◌, ◌-◌, ◌*◌, ◌%◌, ◌<◌, List, [], ◌∷◌, Bool, ◌&&◌, ◌==◌, nat_le, if◌then◌else◌}
use Rattle.std.specs.List.{list_any}
use Rattle.fb_units.specs.declared.types.Place.{Place}
use Rattle.fb_units.specs.declared.types.Track.{Track}
use Rattle.fb_units.specs.Tracks.{same_track}
use Rattle.fb_geometry.specs.declared.layout.Layout.{Layout}
use Rattle.fb_geometry.specs.declared.zone.Zone.{Zone}

-- where spares are, the rotation in nanoseconds, the number of heads, the zones in order, the defects, and the slots that went bad later
pub record Shape : Type 0 where
  pub layout : Layout
  pub rotation : ℕ
  pub heads : ℕ
  pub zones : List Zone
  pub defects : List Place
  pub grown : List Place

-- the outline of these
abbrev pub shape_of : Layout → ℕ → ℕ → List Zone → List Place → List Place → Shape
shape_of layout rotation heads zones defects grown =
    record { layout = layout; rotation = rotation; heads = heads; zones = zones; defects = defects; grown = grown }

-- what f says of the zone that a cylinder lies in; `none` where the cylinder lies behind all zones
abbrev pub zone_tells : {A : Type 0} → A → (Zone → A) → List Zone → ℕ → A
zone_tells none f [] cylinder = none
zone_tells none f (zone ∷ zones) cylinder = if nat_le cylinder zone.last then f zone else zone_tells none f zones cylinder

-- the number of slots of each track of a cylinder
abbrev pub slots_at : List Zone → ℕ → ℕ
slots_at zones cylinder = zone_tells 0 (λ zone. zone.sectors) zones cylinder

-- the number of cylinders: one more than the last one
abbrev pub cylinders_of : List Zone → ℕ
cylinders_of [] = 0
cylinders_of (zone ∷ []) = zone.last + 1
cylinders_of (zone ∷ other ∷ zones) = cylinders_of (other ∷ zones)

-- the slot from which the sectors of a track of the zone are counted
abbrev pub offset_in : Zone → ℕ → Track → ℕ
offset_in zone heads track =
    ((track.cylinder - zone.first) * (zone.cylinder_skew + (heads - 1) * zone.track_skew) + track.head * zone.track_skew) % zone.sectors

-- the same for any track
abbrev pub offset_at : List Zone → ℕ → Track → ℕ
offset_at zones heads track = zone_tells 0 (λ zone. offset_in zone heads track) zones track.cylinder

-- how many slots of its track's turn come before a place
abbrev pub turn_position : Shape → Place → ℕ
turn_position disk place =
    let slots = slots_at disk.zones place.track.cylinder in
    (place.slot + slots - offset_at disk.zones disk.heads place.track) % slots

abbrev pub same_place : Place → Place → Bool
same_place a b = same_track a.track b.track && (a.slot == b.slot)

-- the place is one of these
abbrev pub is_among : List Place → Place → Bool
is_among places place = list_any (same_place place) places

-- the track is one of the disk's
pub record IsTrackOf (disk : Shape) (track : Track) : Type 0 where
  pub cylinder : track.cylinder < cylinders_of disk.zones
  pub head : track.head < disk.heads
