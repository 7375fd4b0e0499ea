-- The parts of a judgement, and what holds of a geometry in memory: no fault, and marks that agree with its outline.
use Rattle.std.specs.Prelude.{◌≡◌, ℕ, List, [], ◌++◌, Option, Some, None, Result, Ok, Err, false, find, filter, position, ◌-◌, ◌*◌, ◌<◌}
use Rattle.std.specs.Prelude.{slice_get}
use Rattle.fb_units.specs.declared.types.Place.{Place}
use Rattle.fb_geometry.specs.declared.fault.GeometryFault.{GeometryFault}
use Rattle.fb_geometry.specs.declared.fault.GeometryFault.TheVariants.{ZonesNotContiguous, SkewTooLarge, DefectOutside, DefectTwice}
use Rattle.fb_geometry.specs.declared.fault.GeometryFault.TheVariants.{GrownOutside, GrownTwice}
use Rattle.fb_units.specs.declared.read_error.ReadError.{ReadError}
use Rattle.fb_units.specs.declared.read_error.ReadError.TheVariants.{Fault, NoMemory}
use Rattle.fb_geometry.specs.declared.layout.Layout.TheVariants.{PerTrack}
use Rattle.fb_geometry.specs.declared.zone.Zone.{Zone}
use Rattle.fb_geometry.specs.declared.marks.Mark.{Mark}
use Rattle.fb_geometry.specs.Shape.{Shape, is_among}
use Rattle.fb_geometry.specs.Places.{by_head, good_track, data_list_at}
use Rattle.fb_geometry.specs.Faults.{or_else, fault_at, range_fault, is_out_of_range, first_apart, is_too_skewed, is_outside, least}
use Rattle.fb_geometry.specs.Faults.{is_place_before, repeated, spare_fault}
use Rattle.fb_geometry.specs.Sound.{IsSound}
use Rattle.fb_geometry.specs.Turns.{AreZoneNumbers, IsZoneAt, cylinder_slots, slot_at, position_in}
use Rattle.fb_geometry.specs.Slips.{indexes, slipped, rank}
use Rattle.fb_geometry.specs.Marks.{AreSorted, positions, marks_on}

-- the first fault of the disk's numbers and zones
abbrev pub zone_fault : Shape → Option GeometryFault
zone_fault disk = or_else (range_fault disk)
    (or_else (fault_at ZonesNotContiguous (first_apart 0 0 disk.zones)) (fault_at SkewTooLarge (position is_too_skewed disk.zones)))

-- the first fault of the defects
abbrev pub defect_fault : Shape → Option GeometryFault
defect_fault disk = or_else (fault_at DefectOutside (find (is_outside disk) disk.defects))
    (fault_at DefectTwice (least is_place_before (repeated disk.defects)))

-- the first fault of the grown defects
abbrev pub grown_fault : Shape → Option GeometryFault
grown_fault disk = or_else (fault_at GrownOutside (find (is_outside disk) disk.grown))
    (fault_at GrownTwice (least is_place_before (repeated disk.grown ++ filter (is_among disk.defects) disk.grown)))

-- the error is this fault, or out of memory
abbrev pub Answers : Option GeometryFault → ReadError GeometryFault → Type 0
Answers fault (Fault first) = fault ≡ Some first
Answers fault NoMemory = Unit {0}

-- the result refuses for this fault, or accepts if there is none; or it is out of memory
abbrev pub RefusesFor : Option GeometryFault → Result (Unit {0}) (ReadError GeometryFault) → Type 0
RefusesFor fault (Ok _) = fault ≡ None
RefusesFor fault (Err error) = Answers fault error

-- the numbers and the zones have no fault
pub record HasZones (disk : Shape) : Type 0 where
  pub in_range : is_out_of_range disk ≡ false
  pub contiguous : first_apart 0 0 disk.zones ≡ None
  pub skews : position is_too_skewed disk.zones ≡ None

-- the outline has none of the faults
pub record IsFaultless (disk : Shape) : Type 0 where
  pub zones_hold : HasZones disk
  pub defects_inside : find (is_outside disk) disk.defects ≡ None
  pub defects_once : least is_place_before (repeated disk.defects) ≡ None
  pub spares : spare_fault disk.layout disk ≡ None

-- there is no fault, and these are the places in order
pub record AreJudged (fault : Option GeometryFault) (places sorted : List Place) : Type 0 where
  pub faultless : fault ≡ None
  pub are : AreSorted places sorted

-- the marks of each cylinder are the positions of its defects, and among its slots without defects those of its grown defects
pub record AreOwnMarks (disk : Shape) (defects grown : List Mark) : Type 0 where
  pub defects_at : (zone : Zone) (cylinder : ℕ) → IsZoneAt disk cylinder zone
      → positions (marks_on cylinder defects) ≡ indexes (is_among disk.defects) 0 (cylinder_slots zone disk.heads cylinder)
  pub grown_at : (zone : Zone) (cylinder : ℕ) → IsZoneAt disk cylinder zone
      → positions (marks_on cylinder grown) ≡ indexes (is_among disk.grown) 0 (by_head disk cylinder (good_track disk zone))

-- the outline has no fault, the facts that follow from it hold, the numbers are those of its zones, and the marks are its own
pub record IsKept (disk : Shape) (numbers : List ℕ) (defects grown : List Mark) : Type 0 where
  pub faultless : IsFaultless disk
  pub numbered : AreZoneNumbers disk.zones numbers
  pub sound : IsSound disk
  pub own_marks : AreOwnMarks disk defects grown
  pub fits : disk.layout ≡ PerTrack → disk.grown ≡ []

-- a number is the index of the slot of a cylinder's sector among the slots that are no defects
pub record IsGoodOf (disk : Shape) (zone : Zone) (cylinder j good : ℕ) : Type 0 where
  pub inside : slipped good (indexes (is_among disk.defects) 0 (cylinder_slots zone disk.heads cylinder)) < disk.heads * zone.sectors
  pub is : slice_get (data_list_at disk cylinder) j
      ≡ Some (slot_at zone disk.heads cylinder (slipped good (indexes (is_among disk.defects) 0 (cylinder_slots zone disk.heads cylinder))))

-- how many slots of its cylinder that are no defects come before a place
abbrev pub good_before : Shape → Zone → Place → ℕ
good_before disk zone place =
    let position = position_in zone disk.heads place in
    position - rank position (indexes (is_among disk.defects) 0 (cylinder_slots zone disk.heads place.track.cylinder))
