-- What the parts of a judgement say of the whole.
use Rattle.fb_units.proofs.Searches.{find-none}
use Rattle.fb_geometry.proofs.Words.{All, All-append, All-from_recursion, All-permutation, Answers, AreSorted, Bool, DefectTwice}
use Rattle.fb_geometry.proofs.Words.{Fault, FitsLayout, GeometryFault, GrownOutside, GrownTwice, HasZones, IsFaultless, Layout}
use Rattle.fb_geometry.proofs.Words.{List, NoMemory, None, Option, OutOfRange, PerCylinder, PerTrack, Place, ReadError, Shape}
use Rattle.fb_geometry.proofs.Words.{Some, TooManyDefects, TooManyInCylinder, [], ap, append-nil, arith, defect_fault, false, fault_at}
use Rattle.fb_geometry.proofs.Words.{filter, find, first_fault, grown_fault, if◌then◌else◌, is_among, is_full_cylinder, is_full_track}
use Rattle.fb_geometry.proofs.Words.{is_outside, is_place_before, is_track_before, least, nat_lt, nat_tests, none-some, option_map}
use Rattle.fb_geometry.proofs.Words.{or_else, refl, repeated, slice_get, spare_fault, subst, sym, true, zone_fault, ◌++◌, ◌∙◌, ◌∷◌, ◌≡◌}
use Rattle.fb_geometry.proofs.{Faultless.or_else-none, Faultless.fault_at-none, Faultless.least-none}
use Rattle.fb_geometry.proofs.{Leasts.track_order, Leasts.number_order, Clashes.least_repeated, Clashes.least_clash, Clashes.least_full}

-- ---- what holds where there is no fault

good_defects : (disk : Shape) → defect_fault disk ≡ None → (find (is_outside disk) disk.defects ≡ None) × (repeated disk.defects ≡ [])
good_defects disk h = let parts = or_else-none _ _ h in
    (fault_at-none _ _ parts.0, least-none is_place_before _ (fault_at-none _ _ parts.1))

good_grown : (disk : Shape) → grown_fault disk ≡ None → (find (is_outside disk) disk.grown ≡ None) × (repeated disk.grown ≡ [])
    × (filter (is_among disk.defects) disk.grown ≡ [])
good_grown disk h =
    let parts = or_else-none _ _ h in
    let lists = both_empty (repeated disk.grown) _ (least-none is_place_before _ (fault_at-none _ _ parts.1)) in
    (fault_at-none _ _ parts.0, lists.0, lists.1)
  where
    both_empty : (xs ys : List Place) → xs ++ ys ≡ [] → (xs ≡ []) × (ys ≡ [])
    both_empty [] ys h = (refl, h)
    both_empty (x ∷ xs) ys h = cc

-- ---- places that are listed twice

-- the fault of the defects, or of the grown ones, where none is outside
pub defects_sorted : (places sorted : List Place) → AreSorted (places ++ []) sorted → AreSorted places sorted
defects_sorted places sorted are = subst (λ places. AreSorted places sorted) (append-nil places) are

pub defects_judged : (disk : Shape) (sorted : List Place) → find (is_outside disk) disk.defects ≡ None
    → AreSorted (disk.defects ++ []) sorted
    → defect_fault disk ≡ fault_at DefectTwice (slice_get (repeated sorted) 0)
defects_judged disk sorted none are = rw (none, least_repeated disk.defects sorted (defects_sorted disk.defects sorted are)) refl

pub grown_judged : (disk : Shape) (sorted : List Place) → defect_fault disk ≡ None → find (is_outside disk) disk.grown ≡ None
    → AreSorted (disk.defects ++ disk.grown) sorted
    → grown_fault disk ≡ fault_at GrownTwice (slice_get (repeated sorted) 0)
grown_judged disk sorted good none are = rw (none, least_clash disk.defects disk.grown sorted (good_defects disk good).1 are) refl

-- the places in order are on the disk if they are
inside : (disk : Shape) (places : List Place) → find (is_outside disk) places ≡ None → All (λ place. is_outside disk place ≡ false) places
inside disk places none = All-from_recursion (λ place. is_outside disk place ≡ false) places (find-none (is_outside disk) places none)

pub defects_inside : (disk : Shape) (sorted : List Place) → defect_fault disk ≡ None → AreSorted disk.defects sorted
    → All (λ place. is_outside disk place ≡ false) sorted
defects_inside disk sorted h are = All-permutation (λ place. is_outside disk place ≡ false) _ _ are.same
    (inside disk disk.defects (good_defects disk h).0)

pub bad_inside : (disk : Shape) (sorted : List Place) → defect_fault disk ≡ None → grown_fault disk ≡ None
    → AreSorted (disk.defects ++ disk.grown) sorted → All (λ place. is_outside disk place ≡ false) sorted
bad_inside disk sorted h k are = All-permutation (λ place. is_outside disk place ≡ false) _ _ are.same
    (All-append (λ place. is_outside disk place ≡ false) _ _ (inside disk disk.defects (good_defects disk h).0)
    (inside disk disk.grown (good_grown disk k).0))

-- ---- the whole

or_else-assoc : (a b c : Option GeometryFault) → or_else (or_else a b) c ≡ or_else a (or_else b c)
or_else-assoc None b c = refl
or_else-assoc (Some fault) b c = refl

-- the first fault is that of the zones, or of the defects, or of the spares
first_fault-is : (disk : Shape)
    → first_fault disk ≡ or_else (zone_fault disk) (or_else (defect_fault disk) (spare_fault disk.layout disk))
unfolding first_fault
first_fault-is disk = simp or_else-assoc

pub fault_of_zones : (disk : Shape) (fault : GeometryFault) → zone_fault disk ≡ Some fault → first_fault disk ≡ Some fault
fault_of_zones disk fault e = first_fault-is disk ∙ rw e refl

fault_of_defects : (disk : Shape) (fault : GeometryFault) → zone_fault disk ≡ None → defect_fault disk ≡ Some fault
    → first_fault disk ≡ Some fault
fault_of_defects disk fault e f = first_fault-is disk ∙ rw (e, f) refl

pub fault_of_spares : (disk : Shape) (layout : Layout) → disk.layout ≡ layout → zone_fault disk ≡ None → defect_fault disk ≡ None
    → first_fault disk ≡ spare_fault layout disk
fault_of_spares disk layout l e f = first_fault-is disk ∙ rw (e, f, l) refl

pub refused : (disk : Shape) (error : ReadError GeometryFault) → zone_fault disk ≡ None → Answers (defect_fault disk) error
    → Answers (first_fault disk) error
refused disk (Fault fault) e h = fault_of_defects disk fault e h
refused disk NoMemory e h = tt

in_range : (b : Bool) → (if b then Some OutOfRange else None) ≡ None → b ≡ false
in_range true h = absurd (none-some OutOfRange (sym h))
in_range false h = refl

pub has_zones : (disk : Shape) → zone_fault disk ≡ None → HasZones disk
has_zones disk h =
    let a = or_else-none _ _ h in
    let b = or_else-none _ _ a.1 in
    record { in_range = in_range _ a.0; contiguous = fault_at-none _ _ b.0; skews = fault_at-none _ _ b.1 }

pub faultless : (disk : Shape) → first_fault disk ≡ None → IsFaultless disk
faultless disk h =
    let parts = or_else-none _ _ (sym (first_fault-is disk) ∙ h) in
    let judged = or_else-none _ _ parts.1 in
    let good = good_defects disk judged.0 in
    record {
      zones_hold = has_zones disk parts.0;
      defects_inside = good.0;
      defects_once = ap (least is_place_before) good.1;
      spares = judged.1;
    }

-- the fault of the spares, by the first place in order whose track or cylinder has too few
pub track_spares : (disk : Shape) (sorted : List Place) → AreSorted disk.defects sorted
    → spare_fault PerTrack disk ≡ fault_at TooManyDefects (option_map (λ place. place.track)
    (find (λ place. is_full_track disk place.track) sorted))
track_spares disk sorted are = ap (fault_at TooManyDefects) (least_full is_track_before track_order (λ place. place.track)
    (λ a b h. grind (arith, nat_tests)) (is_full_track disk) disk.defects sorted are)

pub cylinder_spares : (disk : Shape) (sorted : List Place) → grown_fault disk ≡ None
    → AreSorted (disk.defects ++ disk.grown) sorted
    → spare_fault PerCylinder disk ≡ fault_at TooManyInCylinder (option_map (λ place. place.track.cylinder)
    (find (λ place. is_full_cylinder disk place.track.cylinder) sorted))
cylinder_spares disk sorted h are =
    let outside = fault_at GrownOutside (find (is_outside disk) disk.grown) in
    let twice = fault_at GrownTwice (least is_place_before (repeated disk.grown ++ filter (is_among disk.defects) disk.grown)) in
    let parts = or_else-none outside twice h in
    rw (parts.0, parts.1) (ap (fault_at TooManyInCylinder)
    (least_full nat_lt number_order (λ place. place.track.cylinder) (λ a b h. grind (arith, nat_tests)) (is_full_cylinder disk)
    (disk.defects ++ disk.grown) sorted are))

-- the grown defects are on the disk, each is listed once, and none of them is a defect too
pub grown_once : (layout : Layout) (disk : Shape) → FitsLayout layout disk → spare_fault layout disk ≡ None
    → (find (is_outside disk) disk.grown ≡ None) × (repeated disk.grown ≡ []) × (filter (is_among disk.defects) disk.grown ≡ [])
grown_once PerTrack disk fits h = rw fits.0 (refl, refl, refl)
grown_once PerCylinder disk fits h =
    let outside = or_else-none (fault_at GrownOutside (find (is_outside disk) disk.grown)) _ h in
    good_grown disk (rw outside.0 (or_else-none _ _ outside.1).0)

pub fits_per_track : (layout : Layout) (disk : Shape) → FitsLayout layout disk → layout ≡ PerTrack → disk.grown ≡ []
fits_per_track PerTrack disk fits h = fits.0
fits_per_track PerCylinder disk fits h = cc
