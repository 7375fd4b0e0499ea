-- What holds of an outline without a fault.
use Rattle.fb_units.proofs.Lists.{all_from_index, all_get, all_weaker, none_of_any}
use Rattle.fb_units.proofs.Searches.{find-some, position-none}
use Rattle.std.proofs.Math.Seq.{get_or-append_seam}
use Rattle.std.proofs.lemmas.List.{get_or_append_left}
use Rattle.fb_geometry.proofs.Words.{AllByRecursion, AreFirstZoneNumbers, AreZoneNumbers, Bool, GeometryFault, HasZones, IsCylinderOf}
use Rattle.fb_geometry.proofs.Words.{IsFaultless, IsNonDecreasingBy, IsPartitionPoint, IsZone, IsZoneAt, IsZoneNumber, IsZoneOf, List}
use Rattle.fb_geometry.proofs.Words.{None, Option, Pairwise, Shape, Some, Track, Zone, [], ap, arith, cases_lt, cylinder_spares_at}
use Rattle.fb_geometry.proofs.Words.{cylinders_of, data_list, false, fault_at, first_apart, get_or, has_no_data, inl, inr, is_bad_zone}
use Rattle.fb_geometry.proofs.Words.{is_too_skewed, le-leb, least, leb-true, length, length-append, lesser, list_among, lt-leb, ltb-false}
use Rattle.fb_geometry.proofs.Words.{ltb-true, nat_le, nat_lt, nat_tests, none-some, offset_at, offset_in, or_else, or_parts, refl}
use Rattle.fb_geometry.proofs.Words.{same_Some, slice_get, slice_get-get_or, slice_index_or, slots_at, spares_at, suc, sym, true, zero}
use Rattle.fb_geometry.proofs.Words.{zone_at, zone_tells, ℕ, ◌++◌, ◌+◌, ◌<◌, ◌^◌, ◌∙◌, ◌∷◌, ◌≡◌, ◌≤◌}
use Rattle.fb_geometry.proofs.{Slips.rises}

-- ---- chains

pub or_else-none : (a b : Option GeometryFault) → or_else a b ≡ None → (a ≡ None) × (b ≡ None)
or_else-none None b h = (refl, h)
or_else-none (Some fault) b h = absurd (none-some fault (sym h))

pub fault_at-none : {A : Type 0} (fault : A → GeometryFault) (o : Option A) → fault_at fault o ≡ None → o ≡ None
fault_at-none fault None h = refl
fault_at-none fault (Some a) h = absurd (none-some (fault a) (sym h))

-- ---- searches that find nothing

pub least-none : {X : Type 0} (is_before : X → X → Bool) (xs : List X) → least is_before xs ≡ None → xs ≡ []
least-none is_before [] h = refl
least-none {X = X} is_before (x ∷ xs) h = absurd (lesser_some (least is_before xs) h)
  where
    lesser_some : (o : Option X) → lesser is_before x o ≡ None → ⊥
    lesser_some None h = none-some x (sym h)
    lesser_some (Some y) h = grind arith

-- ---- zones

module _ (disk : Shape) (sound : HasZones disk) where
  good_zone : (i : ℕ) (zone : Zone) → slice_get disk.zones i ≡ Some zone → is_bad_zone disk zone ≡ false
  good_zone i zone at = all_get (λ zone. is_bad_zone disk zone ≡ false) disk.zones i zone
      (none_of_any (is_bad_zone disk) disk.zones (or_parts _ _ sound.in_range).1) at

  pub some_zones : 0 < length disk.zones
  some_zones = grind (arith, nat_tests, sound.in_range)

  -- the numbers of each zone are in their ranges
  pub ranges_of : (i : ℕ) (zone : Zone) → slice_get disk.zones i ≡ Some zone → IsZone zone
  ranges_of i zone at =
      let good = good_zone i zone at in
      let flat = all_get (λ zone. is_too_skewed zone ≡ false) disk.zones i zone (position-none is_too_skewed disk.zones sound.skews) at in
      record {
        some_sectors = grind (arith, nat_tests, good);
        few_sectors = grind (arith, nat_tests, good);
        some_cylinders = grind (arith, nat_tests, good);
        few_cylinders = grind (arith, nat_tests, good);
        track_skew = grind (arith, nat_tests, flat);
        cylinder_skew = grind (arith, nat_tests, flat);
      }

  pub short_slots : (i : ℕ) (zone : Zone) → slice_get disk.zones i ≡ Some zone → zone.sectors ≤ disk.rotation
  short_slots i zone at = grind (arith, nat_tests, good_zone i zone at)

  pub data_of : (i : ℕ) (zone : Zone) → slice_get disk.zones i ≡ Some zone → has_no_data disk.layout disk zone ≡ false
  data_of i zone at = (or_parts _ _ (good_zone i zone at)).1

-- ---- the zone of a cylinder

-- the later zone begins behind the other one
abbrev pub Follow : Zone → Zone → Type 0
Follow zone later = (zone.last < later.first) × (later.first ≤ later.last)

pub next : (index begin : ℕ) (zone : Zone) (zones : List Zone) → first_apart index begin (zone ∷ zones) ≡ None → (zone.first ≡ begin)
    × (first_apart (index + 1) (zone.last + 1) zones ≡ None)
next index begin zone zones h = (grind (arith, nat_tests), grind (arith, nat_tests))

-- no zone begins before the first has to, and each begins behind the ones before it
follow : (index begin : ℕ) (zones : List Zone) → first_apart index begin zones ≡ None
    → AllByRecursion (λ zone. zone.first ≤ zone.last) zones
    → AllByRecursion (λ zone. (begin ≤ zone.first) × (zone.first ≤ zone.last)) zones × Pairwise Follow zones
follow index begin [] h up = (tt, tt)
follow index begin (zone ∷ zones) h up =
    let parts = next index begin zone zones h in
    let rest = follow (index + 1) (zone.last + 1) zones parts.1 up.1 in
    let over = λ (later : Zone). (zone.last + 1 ≤ later.first) × (later.first ≤ later.last) in
    let from_begin = all_weaker over (λ later. (begin ≤ later.first) × (later.first ≤ later.last))
    (λ later on. (omega (arith, parts.0, up.0, on.0), on.1)) zones rest.0 in
    let behind = all_weaker over (Follow zone) (λ later on. (omega (arith, on.0), on.1)) zones rest.0 in
    (((omega (arith, parts.0), up.0), from_begin), (behind, rest.1))

-- a cylinder between the first and the last of a zone is that zone's
zone_of : (i cylinder : ℕ) (zones : List Zone) (zone : Zone) → Pairwise Follow zones → slice_get zones i ≡ Some zone
    → zone.first ≤ cylinder → cylinder ≤ zone.last → zone_at zones cylinder ≡ Some zone
zone_of i cylinder [] zone up at from upto = absurd (none-some zone at)
zone_of zero cylinder (other ∷ zones) zone up at from upto =
    rw (le-leb cylinder other.last (omega (arith, ap (λ zone. zone.last) (same_Some other zone at)))) at
zone_of (suc i) cylinder (other ∷ zones) zone up at from upto = let after = all_get (Follow other) zones i zone up.0 at in
    rw (lt-leb cylinder other.last (omega (arith, after.0))) (zone_of i cylinder zones zone up.1 at from upto)

-- and doesn't begin behind the cylinder
found_from : (index begin cylinder : ℕ) (zones : List Zone) (zone : Zone) → first_apart index begin zones ≡ None → begin ≤ cylinder
    → zone_at zones cylinder ≡ Some zone → zone.first ≤ cylinder
found_from index begin cylinder [] zone h from at = absurd (none-some zone at)
found_from index begin cylinder (other ∷ zones) zone h from at =
    let parts = next index begin other zones h in
    grind (arith, nat_tests, parts.0, found_from (index + 1) (other.last + 1) cylinder zones zone parts.1)

-- what is said of a cylinder is what its zone says of it
said_by_zone : {A : Type 0} (none : A) (f : Zone → A) (zones : List Zone) (cylinder : ℕ) (zone : Zone)
    → zone_at zones cylinder ≡ Some zone → zone_tells none f zones cylinder ≡ f zone
said_by_zone none f [] cylinder zone h = absurd (none-some zone h)
said_by_zone none f (other ∷ zones) cylinder zone h = grind (arith, said_by_zone none f zones cylinder zone)

pub slots_at-zone : (zones : List Zone) (cylinder : ℕ) (zone : Zone) → zone_at zones cylinder ≡ Some zone
    → slots_at zones cylinder ≡ zone.sectors
slots_at-zone = said_by_zone 0 (λ zone. zone.sectors)

pub spares_at-zone : (zones : List Zone) (cylinder : ℕ) (zone : Zone) → zone_at zones cylinder ≡ Some zone
    → spares_at zones cylinder ≡ zone.spares
spares_at-zone = said_by_zone 0 (λ zone. zone.spares)

pub cylinder_spares_at-zone : (zones : List Zone) (cylinder : ℕ) (zone : Zone) → zone_at zones cylinder ≡ Some zone
    → cylinder_spares_at zones cylinder ≡ zone.cylinder_spares
cylinder_spares_at-zone = said_by_zone 0 (λ zone. zone.cylinder_spares)

pub offset_at_zone : (zones : List Zone) (heads : ℕ) (track : Track) (zone : Zone) → zone_at zones track.cylinder ≡ Some zone
    → offset_at zones heads track ≡ offset_in zone heads track
offset_at_zone zones heads track = said_by_zone 0 (λ zone. offset_in zone heads track) zones track.cylinder

pub list_among-zone : (disk : Shape) (zones : List Zone) (cylinder : ℕ) (zone : Zone) → zone_at zones cylinder ≡ Some zone
    → list_among disk zones cylinder ≡ data_list disk zone cylinder
list_among-zone disk zones cylinder = said_by_zone [] (λ zone. data_list disk zone cylinder) zones cylinder

-- what is said of a cylinder, by its zone
pub ruleset by_zone = (slots_at-zone, spares_at-zone, cylinder_spares_at-zone, offset_at_zone, list_among-zone)

-- a cylinder of the disk has a zone
pub some_zone : (index begin cylinder : ℕ) (zones : List Zone) → first_apart index begin zones ≡ None → begin ≤ cylinder
    → cylinder < cylinders_of zones → (zone : Zone) × (zone_at zones cylinder ≡ Some zone)
some_zone index begin cylinder [] h from below = absurd (omega arith)
some_zone index begin cylinder (zone ∷ []) h from below = (zone, rw (le-leb cylinder zone.last (omega arith)) refl)
some_zone index begin cylinder (zone ∷ other ∷ zones) h from below = elim (cases_lt zone.last cylinder) [
  | inl behind ↦ let rest = some_zone (index + 1) (zone.last + 1) cylinder (other ∷ zones) (next index begin zone (other ∷ zones) h).1
      (omega arith) below in (rest.0, rw (lt-leb cylinder zone.last behind) rest.1)
  | inr here ↦ (zone, rw (le-leb cylinder zone.last here) refl)
]

cylinders-le : (n : ℕ) (zones : List Zone) → ((i : ℕ) (zone : Zone) → slice_get zones i ≡ Some zone → zone.last < n)
    → 0 < length zones → cylinders_of zones ≤ n
cylinders-le n [] all some = absurd (omega arith)
cylinders-le n (zone ∷ []) all some = omega (arith, all 0 zone refl)
cylinders-le n (zone ∷ other ∷ zones) all some = cylinders-le n (other ∷ zones) (λ i. all (suc i)) (omega arith)

module _ (disk : Shape) (sound : HasZones disk) where
  pub zones_follow : Pairwise Follow disk.zones
  zones_follow = (follow 0 0 disk.zones sound.contiguous (all_from_index (λ zone. zone.first ≤ zone.last) disk.zones
      (λ i zone at. (ranges_of disk sound i zone at).some_cylinders))).1

  pub few_cylinders : cylinders_of disk.zones ≤ 10 ^ 6
  few_cylinders = cylinders-le (10 ^ 6) disk.zones (λ i zone at. (ranges_of disk sound i zone at).few_cylinders) (some_zones disk sound)

  pub zones_rise : IsNonDecreasingBy (λ zone. zone.last) disk.zones
  zones_rise = rises Follow (λ zone. zone.last) (λ zone later on. omega (arith, on.0, on.1)) disk.zones zones_follow

  -- the zone that is found for a cylinder
  pub found_zone : (cylinder : ℕ) (zone : Zone) → zone_at disk.zones cylinder ≡ Some zone → IsZoneOf disk cylinder zone
  found_zone cylinder zone at =
      let found = find-some (λ zone. nat_le cylinder zone.last) disk.zones zone at in
      record {
        found = at;
        ranges = ranges_of disk sound found.0 zone found.1;
        from = found_from 0 0 cylinder disk.zones zone sound.contiguous (omega arith) at;
        upto = leb-true cylinder zone.last found.2;
      }

pub zone_by_search : (disk : Shape) → IsFaultless disk → (cylinder : ℕ) (zone : Zone) → zone_at disk.zones cylinder ≡ Some zone
    → IsZoneAt disk cylinder zone
zone_by_search disk h cylinder zone at =
    let found = find-some (λ zone. nat_le cylinder zone.last) disk.zones zone at in
    let is = found_zone disk h.zones_hold cylinder zone at in
    record {
      found = at;
      ranges = is.ranges;
      from = is.from;
      upto = is.upto;
      short = short_slots disk h.zones_hold found.0 zone found.1;
      holds_data = data_of disk h.zones_hold found.0 zone found.1;
      enough_spares = h.spares;
    }

pub zone_by_bounds : (disk : Shape) → IsFaultless disk → (i : ℕ) (zone : Zone) (cylinder : ℕ) → IsCylinderOf disk i zone cylinder
    → IsZoneAt disk cylinder zone
zone_by_bounds disk h i zone cylinder at =
    zone_by_search disk h cylinder zone (zone_of i cylinder disk.zones zone (zones_follow disk h.zones_hold) at.zone_is at.from at.upto)

-- ---- a search by the last cylinders

pub point_zone : (cylinder : ℕ) (zones : List Zone) (i : ℕ) (d : Zone)
    → IsPartitionPoint (λ zone. nat_lt zone.last cylinder ≡ true) (λ zone. nat_lt zone.last cylinder ≡ false) zones i
    → i ≤ length zones → cylinder < cylinders_of zones → (i < length zones) × (zone_at zones cylinder ≡ Some (get_or zones i d))
point_zone cylinder [] i d at h below = absurd (omega arith)
point_zone cylinder (zone ∷ zones) zero d at h below =
    (omega arith, rw (le-leb cylinder zone.last (ltb-false zone.last cylinder (at.1 0 d (omega arith) (omega arith)))) refl)
point_zone cylinder (zone ∷ []) (suc i) d at h below =
    absurd (omega (arith, ltb-true zone.last cylinder (at.0 0 d (omega arith) (omega arith))))
point_zone cylinder (zone ∷ other ∷ zones) (suc i) d at h below =
    let rest = point_zone cylinder (other ∷ zones) i d
    (λ k e l m. at.0 (suc k) e (omega arith) (omega arith), λ k e l m. at.1 (suc k) e (omega arith) (omega arith)) (omega arith) below in
    (omega (arith, rest.0), rw (lt-leb cylinder zone.last (ltb-true zone.last cylinder (at.0 0 d (omega arith) (omega arith)))) rest.1)

-- the disk ends where the last zone ends
pub last_cylinder : (zones : List Zone) (n : ℕ) (d : Zone) → n + 1 ≡ length zones → (get_or zones n d).last + 1 ≡ cylinders_of zones
last_cylinder [] n d h = absurd (omega arith)
last_cylinder (zone ∷ []) n d h = let only : n ≡ 0 = omega arith in rw only refl
last_cylinder (zone ∷ other ∷ zones) zero d h = absurd (omega arith)
last_cylinder (zone ∷ other ∷ zones) (suc n) d h = last_cylinder (other ∷ zones) n d (omega arith)

-- ---- a search by numbers

-- with the number of the next cylinder's zone, these are the numbers of one cylinder more
pub numbers_next : (zones : List Zone) (numbers : List ℕ) (cylinder number : ℕ) → AreFirstZoneNumbers zones numbers cylinder
    → IsZoneNumber zones cylinder number → AreFirstZoneNumbers zones (numbers ++ number ∷ []) (cylinder + 1)
numbers_next zones numbers cylinder number (long, each) last = (
  length-append numbers (number ∷ []) ∙ ap (λ n. n + 1) long,
  λ k d inside. elim (cases_lt k (length numbers)) [
    | inl before ↦ rw (get_or_append_left numbers (number ∷ []) d k before) (each k d before)
    | inr behind ↦ let here : k ≡ length numbers = omega (arith, rw (length-append numbers (number ∷ [])) at inside, behind) in
        rw (here, get_or-append_seam numbers number [] d, long) last
  ],
)

pub number_inside : (zones : List Zone) (numbers : List ℕ) (cylinder : ℕ) → AreZoneNumbers zones numbers → cylinder < cylinders_of zones
    → slice_index_or numbers cylinder 0 < length zones
number_inside zones numbers cylinder are below = (are.1 cylinder 0 (omega (arith, are.0, below))).0

pub numbered_zone : (zones : List Zone) (numbers : List ℕ) (cylinder : ℕ) (zone : Zone) → AreZoneNumbers zones numbers
    → cylinder < cylinders_of zones
    → zone ≡ slice_index_or zones (slice_index_or numbers cylinder 0) zone → zone_at zones cylinder ≡ Some zone
numbered_zone zones numbers cylinder zone are below at =
    let is = are.1 cylinder 0 (omega (arith, are.0, below)) in
    is.1 ∙ (slice_get-get_or zones (slice_index_or numbers cylinder 0) zone is.0 ∙ ap Some (sym at))
