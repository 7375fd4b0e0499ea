-- Zones that follow one another.
use Rattle.fb_sectormap.proofs.Words.{◌≡◌, ℕ, zero, suc, ◌+◌, ◌-◌, ◌<◌, ◌≤◌, List, [], ◌∷◌, ◌++◌, length, refl, ap, sym, ◌∙◌, arith, inl}
use Rattle.fb_sectormap.proofs.Words.{inr, Some, slice_get, ◌==◌, flat_map, range_with_len, cases_Bool, cases_lt, none-some, same_Some}
use Rattle.fb_sectormap.proofs.Words.{Zone, Shape, cylinders_of, data_list}
use Rattle.std.proofs.Common.{None}
use Rattle.std.proofs.lemmas.Bool.{eqb-true, le-leb, lt-leb}
use Rattle.std.proofs.lemmas.Nat.{mul-le}
use Rattle.fb_geometry.specs.declared.layout.Layout.{Layout}
use Rattle.fb_geometry.specs.declared.layout.Layout.TheVariants.{PerTrack, PerCylinder}
use Rattle.fb_geometry.specs.Places.{list_among, zone_places}
use Rattle.fb_geometry.specs.Faults.{first_apart}
use Rattle.fb_geometry.specs.Sound.{cylinder_size_by}
use Rattle.fb_sectormap.proofs.Parts.{parts-split, same-parts}

-- the first zone begins at this cylinder, and each other one behind the one before it
abbrev pub AreFollowing : ℕ → List Zone → Type 0
AreFollowing begin [] = Unit {0}
AreFollowing begin (zone ∷ zones) = (zone.first ≡ begin) × (zone.first ≤ zone.last) × AreFollowing (zone.last + 1) zones

pub following : (index begin : ℕ) (zones : List Zone) → first_apart index begin zones ≡ None
    → ((i : ℕ) (zone : Zone) → slice_get zones i ≡ Some zone → zone.first ≤ zone.last) → AreFollowing begin zones
following index begin [] h some = tt
following index begin (zone ∷ zones) h some = elim (cases_Bool (zone.first == begin)) [
  | inl here ↦ (
    eqb-true zone.first begin here,
    some 0 zone refl,
    following (index + 1) (zone.last + 1) zones (rw here at h) (λ i. some (suc i)),
  )
  | inr off ↦ absurd (none-some index (sym (rw off at h)))
]

-- no zone begins before the first
begins_from : (begin : ℕ) (zones : List Zone) (i : ℕ) (zone : Zone) → AreFollowing begin zones → slice_get zones i ≡ Some zone
    → begin ≤ zone.first
begins_from begin [] i zone follow at = absurd (none-some zone at)
begins_from begin (other ∷ zones) zero zone follow at = omega (arith, follow.0, ap (λ zone. zone.first) (same_Some other zone at))
begins_from begin (other ∷ zones) (suc i) zone follow at =
    omega (arith, follow.0, follow.1, begins_from (other.last + 1) zones i zone follow.2 at)

-- where the first i zones end
abbrev pub border : ℕ → List Zone → ℕ → ℕ
border begin zones zero = begin
border begin [] (suc i) = begin
border begin (zone ∷ zones) (suc i) = border (zone.last + 1) zones i

pub first_is : (begin : ℕ) (zones : List Zone) (i : ℕ) (zone : Zone) → AreFollowing begin zones → slice_get zones i ≡ Some zone
    → zone.first ≡ border begin zones i
first_is begin [] i zone follow at = absurd (none-some zone at)
first_is begin (other ∷ zones) zero zone follow at = ap (λ zone. zone.first) (sym (same_Some other zone at)) ∙ follow.0
first_is begin (other ∷ zones) (suc i) zone follow at = first_is (other.last + 1) zones i zone follow.2 at

pub next_border : (begin : ℕ) (zones : List Zone) (i : ℕ) (zone : Zone) → slice_get zones i ≡ Some zone
    → border begin zones (suc i) ≡ zone.last + 1
next_border begin [] i zone at = absurd (none-some zone at)
next_border begin (other ∷ zones) zero zone at = ap (λ zone. zone.last + 1) (same_Some other zone at)
next_border begin (other ∷ zones) (suc i) zone at = next_border (other.last + 1) zones i zone at

border-from : (begin : ℕ) (zones : List Zone) (i : ℕ) → AreFollowing begin zones → begin ≤ border begin zones i
border-from begin zones zero follow = omega arith
border-from begin [] (suc i) follow = omega arith
border-from begin (zone ∷ zones) (suc i) follow = omega (arith, follow.0, follow.1, border-from (zone.last + 1) zones i follow.2)

pub border-rises : (begin : ℕ) (zones : List Zone) (i j : ℕ) → AreFollowing begin zones → i ≤ j
    → border begin zones i ≤ border begin zones j
border-rises begin zones zero j follow le = border-from begin zones j follow
border-rises begin zones (suc i) zero follow le = absurd (omega arith)
border-rises begin [] (suc i) (suc j) follow le = omega arith
border-rises begin (zone ∷ zones) (suc i) (suc j) follow le = border-rises (zone.last + 1) zones i j follow.2 (omega arith)

pub zone_get : (zones : List Zone) (i : ℕ) → i < length zones → (zone : Zone) × (slice_get zones i ≡ Some zone)
zone_get [] i h = absurd (omega arith)
zone_get (zone ∷ zones) zero h = (zone, refl)
zone_get (zone ∷ zones) (suc i) h = zone_get zones i (omega arith)

-- the disk ends where the last zone ends
pub last_border : (begin : ℕ) (zones : List Zone) → 0 < length zones → border begin zones (length zones) ≡ cylinders_of zones
last_border begin [] some = absurd (omega arith)
last_border begin (zone ∷ []) some = refl
last_border begin (zone ∷ other ∷ zones) some = last_border (zone.last + 1) (other ∷ zones) (omega arith)

ends_after : (begin : ℕ) (zones : List Zone) → AreFollowing begin zones → 0 < length zones → begin < cylinders_of zones
ends_after begin [] follow some = absurd (omega arith)
ends_after begin (zone ∷ []) follow some = omega (arith, follow.0, follow.1)
ends_after begin (zone ∷ other ∷ zones) follow some =
    omega (arith, follow.0, follow.1, ends_after (zone.last + 1) (other ∷ zones) follow.2 (omega arith))

pub upto_end : (begin : ℕ) (zones : List Zone) (i : ℕ) (zone : Zone) → AreFollowing begin zones → slice_get zones i ≡ Some zone
    → zone.last < cylinders_of zones
upto_end begin [] i zone follow at = absurd (none-some zone at)
upto_end begin (other ∷ []) zero zone follow at = omega (arith, ap (λ zone. zone.last) (same_Some other zone at))
upto_end begin (other ∷ []) (suc i) zone follow at = absurd (none-some zone at)
upto_end begin (other ∷ next ∷ zones) zero zone follow at =
    omega (arith, ap (λ zone. zone.last) (same_Some other zone at), ends_after (other.last + 1) (next ∷ zones) follow.2 (omega arith))
upto_end begin (other ∷ next ∷ zones) (suc i) zone follow at = upto_end (other.last + 1) (next ∷ zones) i zone follow.2 at

-- the data list of a cylinder is that of its zone
pub list_in_zone : (disk : Shape) (begin : ℕ) (zones : List Zone) (i cylinder : ℕ) (zone : Zone) → AreFollowing begin zones
    → slice_get zones i ≡ Some zone → zone.first ≤ cylinder → cylinder ≤ zone.last
    → list_among disk zones cylinder ≡ data_list disk zone cylinder
list_in_zone disk begin [] i cylinder zone follow at from upto = absurd (none-some zone at)
list_in_zone disk begin (other ∷ zones) zero cylinder zone follow at from upto =
    let same = same_Some other zone at in
    rw (le-leb cylinder other.last (omega (arith, ap (λ zone. zone.last) same))) (ap (λ zone. data_list disk zone cylinder) same)
list_in_zone disk begin (other ∷ zones) (suc i) cylinder zone follow at from upto =
    rw (lt-leb cylinder other.last (omega (arith, begins_from (other.last + 1) zones i zone follow.2 at)))
    (list_in_zone disk (other.last + 1) zones i cylinder zone follow.2 at from upto)

-- each cylinder has a zone
pub record HasZone (zones : List Zone) (cylinder : ℕ) : Type 0 where
  pub index : ℕ
  pub zone : Zone
  pub at : slice_get zones index ≡ Some zone
  pub from : zone.first ≤ cylinder
  pub upto : cylinder ≤ zone.last

pub some_zone : (begin : ℕ) (zones : List Zone) (cylinder : ℕ) → AreFollowing begin zones → begin ≤ cylinder → cylinder < cylinders_of zones
    → HasZone zones cylinder
some_zone begin [] cylinder follow from below = absurd (omega arith)
some_zone begin (zone ∷ []) cylinder follow from below =
    record { index = 0; zone = zone; at = refl; from = omega (arith, follow.0); upto = omega arith }
some_zone begin (zone ∷ other ∷ zones) cylinder follow from below = elim (cases_lt zone.last cylinder) [
  | inl behind ↦ let rest = some_zone (zone.last + 1) (other ∷ zones) cylinder follow.2 (omega arith) below in
      record { index = suc rest.index; zone = rest.zone; at = rest.at; from = rest.from; upto = rest.upto }
  | inr here ↦ record { index = 0; zone = zone; at = refl; from = omega (arith, follow.0); upto = here }
]

-- the places of a zone's cylinders are those of the disk's
zone_by_cylinder : (disk : Shape) (zone : Zone) (zones : List Zone)
    → flat_map (list_among disk (zone ∷ zones)) (range_with_len zone.first (zone.last + 1 - zone.first)) ≡ zone_places disk zone
zone_by_cylinder disk zone zones = same-parts (list_among disk (zone ∷ zones)) (data_list disk zone) zone.first (zone.last + 1 - zone.first)
    (λ c from below. rw (le-leb c zone.last (omega arith)) refl)

later_by_cylinder : (disk : Shape) (zone : Zone) (zones : List Zone) (n : ℕ)
    → flat_map (list_among disk (zone ∷ zones)) (range_with_len (zone.last + 1) n)
    ≡ flat_map (list_among disk zones) (range_with_len (zone.last + 1) n)
later_by_cylinder disk zone zones n = same-parts (list_among disk (zone ∷ zones)) (list_among disk zones) (zone.last + 1) n
    (λ c from below. rw (lt-leb c zone.last (omega arith)) refl)

joined : (disk : Shape) (begin : ℕ) (zone : Zone) (zones : List Zone) (n : ℕ) → zone.first ≡ begin → zone.first ≤ zone.last
    → n ≡ (zone.last + 1 - begin) + (cylinders_of zones - (zone.last + 1))
    → flat_map (zone_places disk) zones ≡ flat_map (list_among disk zones)
    (range_with_len (zone.last + 1) (cylinders_of zones - (zone.last + 1)))
    → flat_map (zone_places disk) (zone ∷ zones) ≡ flat_map (list_among disk (zone ∷ zones)) (range_with_len begin n)
joined disk begin zone zones n first some e rest =
    let m = cylinders_of zones - (zone.last + 1) in
    ap (λ xs. xs ++ flat_map (zone_places disk) zones) (sym (zone_by_cylinder disk zone zones))
    ∙ ap (λ xs. flat_map (list_among disk (zone ∷ zones)) (range_with_len zone.first (zone.last + 1 - zone.first)) ++ xs) (rest
    ∙ sym (later_by_cylinder disk zone zones m))
    ∙ ap (λ b. flat_map (list_among disk (zone ∷ zones)) (range_with_len b (zone.last + 1 - b)) ++ flat_map (list_among disk (zone ∷ zones))
    (range_with_len (zone.last + 1) m)) first
    ∙ sym (parts-split (list_among disk (zone ∷ zones)) begin (zone.last + 1 - begin) m (zone.last + 1) n (omega arith) e)

pub by_cylinder : (disk : Shape) (begin : ℕ) (zones : List Zone) → AreFollowing begin zones
    → flat_map (zone_places disk) zones ≡ flat_map (list_among disk zones) (range_with_len begin (cylinders_of zones - begin))
by_cylinder disk begin [] follow = let none : cylinders_of [] - begin ≡ 0 = omega arith in rw none refl
by_cylinder disk begin (zone ∷ []) follow =
    joined disk begin zone [] (zone.last + 1 - begin) follow.0 follow.1 (omega arith) (by_cylinder disk (zone.last + 1) [] follow.2)
by_cylinder disk begin (zone ∷ other ∷ zones) follow =
    joined disk begin zone (other ∷ zones) (cylinders_of (other ∷ zones) - begin) follow.0 follow.1
    (omega (arith, ends_after (zone.last + 1) (other ∷ zones) follow.2 (omega arith), follow.0, follow.1))
    (by_cylinder disk (zone.last + 1) (other ∷ zones) follow.2)

-- a cylinder has no more sectors than slots
pub size_most : (layout : Layout) (disk : Shape) (zone : Zone) → disk.heads ≤ 64 → zone.sectors ≤ 10000
    → cylinder_size_by layout disk zone ≤ 640000
size_most PerTrack disk zone heads sectors = omega (arith, mul-le disk.heads (zone.sectors - zone.spares) 64 10000 heads (omega arith))
size_most PerCylinder disk zone heads sectors = omega (arith, mul-le disk.heads zone.sectors 64 10000 heads sectors)
