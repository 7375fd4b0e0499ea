-- Why an outline is refused: its first fault in a fixed order.
use Rattle.std.specs.Prelude.{◌≡◌, ℕ, ◌+◌, ◌*◌, ◌^◌, List, [], ◌∷◌, ◌++◌, length, Bool, true, false, ◌&&◌, ◌||◌, not, ◌==◌, nat_lt}
use Rattle.std.specs.Prelude.{Option, Some, None, Result, Ok, Err, if◌then◌else◌, map, filter, find, position}
use Rattle.std.specs.List.{list_any}
use Rattle.fb_units.specs.declared.types.Place.{Place}
use Rattle.fb_units.specs.declared.types.Track.{Track}
use Rattle.fb_units.specs.Tracks.{same_track}
use Rattle.fb_geometry.specs.declared.layout.Layout.{Layout}
use Rattle.fb_geometry.specs.declared.layout.Layout.TheVariants.{PerTrack, PerCylinder}
use Rattle.fb_geometry.specs.declared.zone.Zone.{Zone}
use Rattle.fb_geometry.specs.declared.fault.GeometryFault.{GeometryFault}
use Rattle.fb_geometry.specs.declared.fault.GeometryFault.TheVariants.{OutOfRange, ZonesNotContiguous, SkewTooLarge, DefectOutside}
use Rattle.fb_geometry.specs.declared.fault.GeometryFault.TheVariants.{DefectTwice, TooManyDefects, GrownOutside, GrownTwice}
use Rattle.fb_geometry.specs.declared.fault.GeometryFault.TheVariants.{TooManyInCylinder}
use Rattle.fb_units.specs.declared.read_error.ReadError.{ReadError}
use Rattle.fb_units.specs.declared.read_error.ReadError.TheVariants.{Fault, NoMemory}
use Rattle.fb_geometry.specs.Shape.{Shape, zone_tells, slots_at, cylinders_of, is_among}

-- the spares leave no sector for data on a track of the zone, or on one of its cylinders
abbrev pub has_no_data : Layout → Shape → Zone → Bool
has_no_data PerTrack disk zone = not (nat_lt zone.spares zone.sectors)
has_no_data PerCylinder disk zone = not (nat_lt zone.spares zone.sectors && nat_lt zone.cylinder_spares (disk.heads * zone.sectors))

-- a number of the zone is out of its range
abbrev pub is_bad_zone : Shape → Zone → Bool
is_bad_zone disk zone = nat_lt zone.last zone.first || nat_lt 999999 zone.last
    || (zone.sectors == 0) || nat_lt 10000 zone.sectors || nat_lt disk.rotation zone.sectors
    || has_no_data disk.layout disk zone

-- a number of the disk, or of one of its zones, is out of its range
abbrev pub is_out_of_range : Shape → Bool
is_out_of_range disk = (disk.rotation == 0) || nat_lt (10 ^ 9) disk.rotation || (disk.heads == 0) || nat_lt 64 disk.heads
    || (length disk.zones == 0) || nat_lt 64 (length disk.zones) || list_any (is_bad_zone disk) disk.zones

-- the index of the first zone that doesn't begin right behind the one before it; the first has this index and has to begin at this cylinder
abbrev pub first_apart : ℕ → ℕ → List Zone → Option ℕ
first_apart index begin [] = None
first_apart index begin (zone ∷ zones) = if zone.first == begin then first_apart (index + 1) (zone.last + 1) zones else Some index

-- a skew of the zone is not below its sectors a track
abbrev pub is_too_skewed : Zone → Bool
is_too_skewed zone = not (nat_lt zone.track_skew zone.sectors && nat_lt zone.cylinder_skew zone.sectors)

-- the place is not a slot of the disk
abbrev pub is_outside : Shape → Place → Bool
is_outside disk place = not (nat_lt place.track.cylinder (cylinders_of disk.zones) && nat_lt place.track.head disk.heads
    && nat_lt place.slot (slots_at disk.zones place.track.cylinder))

-- tracks are ordered by cylinder, and then by head
abbrev pub is_track_before : Track → Track → Bool
is_track_before a b = nat_lt a.cylinder b.cylinder || ((a.cylinder == b.cylinder) && nat_lt a.head b.head)

-- places are ordered by track, and then by slot
abbrev pub is_place_before : Place → Place → Bool
is_place_before a b = is_track_before a.track b.track || (same_track a.track b.track && nat_lt a.slot b.slot)

-- the lesser of an element and another one, if there is another
abbrev pub lesser : {A : Type 0} → (A → A → Bool) → A → Option A → Option A
lesser is_before x None = Some x
lesser is_before x (Some y) = if is_before y x then Some y else Some x

-- the least element of a list
abbrev pub least : {A : Type 0} → (A → A → Bool) → List A → Option A
least is_before [] = None
least is_before (x ∷ xs) = lesser is_before x (least is_before xs)

-- the place and these places, or these places alone
abbrev pub with_repeated : Bool → Place → List Place → List Place
with_repeated true place places = place ∷ places
with_repeated false place places = places

-- the places of a list that it has once more further on
abbrev pub repeated : List Place → List Place
repeated [] = []
repeated (place ∷ places) = with_repeated (is_among places place) place (repeated places)

-- the spares of each track of a cylinder
abbrev pub spares_at : List Zone → ℕ → ℕ
spares_at zones cylinder = zone_tells 0 (λ zone. zone.spares) zones cylinder

-- the spares of a cylinder
abbrev pub cylinder_spares_at : List Zone → ℕ → ℕ
cylinder_spares_at zones cylinder = zone_tells 0 (λ zone. zone.cylinder_spares) zones cylinder

-- the track has more defects than spares
abbrev pub is_full_track : Shape → Track → Bool
is_full_track disk track = nat_lt (spares_at disk.zones track.cylinder)
    (length (filter (λ place. same_track track place.track) disk.defects))

-- the cylinder has more defects and grown defects together than spares
abbrev pub is_full_cylinder : Shape → ℕ → Bool
is_full_cylinder disk cylinder =
    nat_lt (cylinder_spares_at disk.zones cylinder)
    (length (filter (λ place. place.track.cylinder == cylinder) (disk.defects ++ disk.grown)))

-- the first of two faults, if there is any
abbrev pub or_else : Option GeometryFault → Option GeometryFault → Option GeometryFault
or_else None other = other
or_else (Some fault) other = Some fault

-- the fault of what was found, if anything was
abbrev pub fault_at : {A : Type 0} → (A → GeometryFault) → Option A → Option GeometryFault
fault_at fault None = None
fault_at fault (Some a) = Some (fault a)

-- the first fault of the spares, in each layout, and of the grown defects
abbrev pub spare_fault : Layout → Shape → Option GeometryFault
spare_fault PerTrack disk = fault_at TooManyDefects
    (least is_track_before (filter (is_full_track disk) (map (λ place. place.track) disk.defects)))
spare_fault PerCylinder disk =
    or_else (fault_at GrownOutside (find (is_outside disk) disk.grown))
    (or_else (fault_at GrownTwice (least is_place_before (repeated disk.grown ++ filter (is_among disk.defects) disk.grown)))
    (fault_at TooManyInCylinder
    (least nat_lt (filter (is_full_cylinder disk) (map (λ place. place.track.cylinder) (disk.defects ++ disk.grown))))))

-- the fault of a number that is out of its range, if one is
abbrev pub range_fault : Shape → Option GeometryFault
range_fault disk = if is_out_of_range disk then Some OutOfRange else None

-- the first fault of the outline
unfoldable pub first_fault : Shape → Option GeometryFault
first_fault disk =
    or_else (range_fault disk)
    (or_else (fault_at ZonesNotContiguous (first_apart 0 0 disk.zones))
    (or_else (fault_at SkewTooLarge (position is_too_skewed disk.zones))
    (or_else (fault_at DefectOutside (find (is_outside disk) disk.defects))
    (or_else (fault_at DefectTwice (least is_place_before (repeated disk.defects)))
    (spare_fault disk.layout disk)))))

-- the geometry has this outline, which has no fault, or the fault is its first one; running out of memory may come with any outline
abbrev pub Judges : Shape → Result Shape (ReadError GeometryFault) → Type 0
Judges disk (Ok geometry) = (geometry ≡ disk) × (first_fault disk ≡ None)
Judges disk (Err (Fault fault)) = first_fault disk ≡ Some fault
Judges disk (Err NoMemory) = Unit {0}

-- the outline has no spares and no grown defects of the other layout
abbrev pub FitsLayout : Layout → Shape → Type 0
FitsLayout PerTrack disk = (disk.grown ≡ []) × (list_any (λ zone. not (zone.cylinder_spares == 0)) disk.zones ≡ false)
FitsLayout PerCylinder disk = list_any (λ zone. not (zone.spares == 0)) disk.zones ≡ false
