-- Sectors are numbered cylinder by cylinder.
use Rattle.fb_sectormap.proofs.Words.{◌≡◌, ℕ, ◌+◌, ◌-◌, ◌*◌, ◌<◌, ◌≤◌, ◌^◌, length, ap, sym, ◌∙◌, arith, inl, inr, Some, slice_get}
use Rattle.fb_sectormap.proofs.Words.{flat_map, range_with_len, cases_lt, get_or_from_slice_get, slice_get_within, element_at, Place, Zone}
use Rattle.fb_sectormap.proofs.Words.{Shape, cylinders_of, places, data_list, data_list_at, IsSound, cylinder_size, IsAt, place_at}
use Rattle.fb_sectormap.proofs.Words.{track_at, IsFirstOf, IsSectorOf, sectors_before}
use Rattle.fb_geometry.specs.Sound.{IsCylinderOf, LiesOn}
use Rattle.fb_sectormap.specs.Cylinders.{CylindersRise}
use Rattle.fb_sectormap.proofs.Parts.{length-most, length-same, before-upto, before-more, before-rises, in_part, some_part, IsIn}
use Rattle.fb_sectormap.proofs.Zones.{AreFollowing, following, list_in_zone, some_zone, by_cylinder, size_most, upto_end}

module _ (disk : Shape) (sound : IsSound disk) where
  pub follow : AreFollowing 0 disk.zones
  follow = following 0 0 disk.zones sound.contiguous sound.some_cylinders

  pub list-by_zone : (i : ℕ) (zone : Zone) (cylinder : ℕ) → IsCylinderOf disk i zone cylinder
      → data_list_at disk cylinder ≡ data_list disk zone cylinder
  list-by_zone i zone cylinder h = list_in_zone disk 0 disk.zones i cylinder zone follow h.zone_is h.from h.upto

  pub size-by_zone : (i : ℕ) (zone : Zone) (cylinder : ℕ) → IsCylinderOf disk i zone cylinder
      → length (data_list_at disk cylinder) ≡ cylinder_size disk zone
  size-by_zone i zone cylinder h = ap length (list-by_zone i zone cylinder h) ∙ sound.equal i zone cylinder h

  -- the zone of a cylinder
  pub record ByZone (cylinder : ℕ) : Type 0 where
    pub index : ℕ
    pub zone : Zone
    pub holds : IsCylinderOf disk index zone cylinder

  pub by_zone : (cylinder : ℕ) → cylinder < cylinders_of disk.zones → ByZone cylinder
  by_zone cylinder h = let found = some_zone 0 disk.zones cylinder follow (omega arith) h in record {
    index = found.index;
    zone = found.zone;
    holds = record { zone_is = found.at; from = found.from; upto = found.upto };
  }

  pub upto_last : (i : ℕ) (zone : Zone) → slice_get disk.zones i ≡ Some zone → zone.last < cylinders_of disk.zones
  upto_last i zone at = upto_end 0 disk.zones i zone follow at

  pub places-by_cylinder : places disk ≡ flat_map (data_list_at disk) (range_with_len 0 (cylinders_of disk.zones))
  unfolding places
  places-by_cylinder = by_cylinder disk 0 disk.zones follow
      ∙ ap (λ n. flat_map (data_list_at disk) (range_with_len 0 n)) (let whole : cylinders_of disk.zones - 0 ≡ cylinders_of disk.zones =
      omega arith in whole)

  pub count-is : length (places disk) ≡ sectors_before disk (cylinders_of disk.zones)
  unfolding sectors_before
  count-is = ap length places-by_cylinder

  pub before_next : (cylinder : ℕ) → sectors_before disk (cylinder + 1) ≡ sectors_before disk cylinder + length (data_list_at disk cylinder)
  unfolding sectors_before
  before_next cylinder = before-more (data_list_at disk) cylinder

  pub before-rise : (a b : ℕ) → a ≤ b → sectors_before disk a ≤ sectors_before disk b
  unfolding sectors_before
  before-rise a b h = before-rises (data_list_at disk) a b h

  -- the sectors before a cylinder of a zone, or before the one behind it
  pub before-in_zone : (i : ℕ) (zone : Zone) (cylinder : ℕ) → slice_get disk.zones i ≡ Some zone → zone.first ≤ cylinder
      → cylinder ≤ zone.last + 1
      → sectors_before disk cylinder ≡ sectors_before disk zone.first + (cylinder - zone.first) * cylinder_size disk zone
  unfolding sectors_before
  before-in_zone i zone cylinder at from upto =
      before-upto (data_list_at disk) zone.first (cylinder - zone.first) cylinder (omega arith)
      ∙ ap (λ n. sectors_before disk zone.first + n)
      (length-same (data_list_at disk) zone.first (cylinder - zone.first) (cylinder_size disk zone)
      (λ c low high. size-by_zone i zone c (record { zone_is = at; from = low; upto = omega arith })))

  pub at_sector : (cylinder j lbn : ℕ) → cylinder < cylinders_of disk.zones → j < length (data_list_at disk cylinder)
      → lbn ≡ sectors_before disk cylinder + j
      → slice_get (places disk) lbn ≡ slice_get (data_list_at disk cylinder) j
  unfolding sectors_before
  at_sector cylinder j lbn on_disk inside e = ap (λ xs. slice_get xs lbn) places-by_cylinder
      ∙ in_part (data_list_at disk) (cylinders_of disk.zones) cylinder j lbn on_disk inside e

  -- each sector has a cylinder
  pub by_parts : (lbn : ℕ) → lbn < length (places disk) → IsIn (data_list_at disk) (cylinders_of disk.zones) lbn
  unfolding sectors_before
  by_parts lbn h = some_part (data_list_at disk) (cylinders_of disk.zones) lbn (omega (arith, count-is))

  pub own-at : (cylinder j : ℕ) (place : Place) → cylinder < cylinders_of disk.zones → slice_get (data_list_at disk cylinder) j ≡ Some place
      → LiesOn disk cylinder place
  own-at cylinder j place h at =
      let by = by_zone cylinder h in
      sound.own by.index by.zone cylinder j place by.holds
      (ap (λ xs. slice_get xs j) (sym (list-by_zone by.index by.zone cylinder by.holds)) ∙ at)

  pub size-few : (cylinder : ℕ) → cylinder < cylinders_of disk.zones → length (data_list_at disk cylinder) ≤ 640000
  size-few cylinder h =
      let by = by_zone cylinder h in
      omega (
        arith,
        size-by_zone by.index by.zone cylinder by.holds,
        size_most disk.layout disk by.zone sound.few_heads (sound.few_slots by.index by.zone by.holds.zone_is),
      )

  -- at most 10^12 sectors are on the cylinders before one
  pub before-few : (cylinder : ℕ) → cylinder ≤ cylinders_of disk.zones → sectors_before disk cylinder ≤ 10 ^ 12
  unfolding sectors_before
  before-few cylinder h = omega (
    arith,
    length-most (data_list_at disk) 0 cylinder 640000 (λ c low high. size-few c (omega arith)),
    sound.few_cylinders,
  )

  pub count_few : length (places disk) ≤ 10 ^ 12
  count_few = omega (arith, count-is, before-few (cylinders_of disk.zones) (omega arith))

  -- ---- places

  pub placed : (cylinder j lbn : ℕ) (place : Place) → IsSectorOf disk cylinder j lbn → slice_get (data_list_at disk cylinder) j ≡ Some place
      → IsAt disk lbn place
  placed cylinder j lbn place h at = at_sector cylinder j lbn h.on_disk h.inside h.number ∙ at

  -- each sector has a place, on its cylinder
  pub record HasPlace (lbn : ℕ) : Type 0 where
    pub cylinder : ℕ
    pub sector : ℕ
    pub place : Place
    pub is : IsSectorOf disk cylinder sector lbn
    pub listed : slice_get (data_list_at disk cylinder) sector ≡ Some place
    pub lies : LiesOn disk cylinder place
    pub placed_at : place_at disk lbn ≡ place

  pub place_is : (lbn : ℕ) (place : Place) → IsAt disk lbn place → place_at disk lbn ≡ place
  unfolding place_at
  place_is lbn place h = get_or_from_slice_get (places disk) lbn place _ h

  pub has_place : (lbn : ℕ) → lbn < length (places disk) → HasPlace lbn
  unfolding sectors_before
  has_place lbn h =
      let part = by_parts lbn h in
      let place = element_at (data_list_at disk part.part) part.index part.inside in
      record {
        cylinder = part.part;
        sector = part.index;
        place = place.0;
        is = record { on_disk = part.below; inside = part.inside; number = part.at };
        listed = place.1;
        lies = own-at part.part part.index place.0 part.below place.1;
        placed_at = place_is lbn place.0 (at_sector part.part part.index lbn part.below part.inside part.at ∙ place.1);
      }

  pub cylinder-of : (lbn : ℕ) (h : lbn < length (places disk)) → (track_at disk lbn).cylinder ≡ (has_place lbn h).cylinder
  cylinder-of lbn h = ap (λ place. place.track.cylinder) (has_place lbn h).placed_at ∙ (has_place lbn h).lies.cylinder_is

  -- a sector with a lesser LBN isn't on a greater cylinder
  before_later : (a b cylinder other sector sector' : ℕ) → IsSectorOf disk cylinder sector a → IsSectorOf disk other sector' b → a ≤ b
      → cylinder ≤ other
  before_later a b cylinder other sector sector' h k le = elim (cases_lt other cylinder) [
    | inl less ↦ absurd (omega (arith, h.number, k.number, k.inside, before_next other, before-rise (other + 1) cylinder (omega arith)))
    | inr more ↦ more
  ]

  pub cylinders-rise : CylindersRise disk
  cylinders-rise a b le below =
      let first = has_place a (omega arith) in
      let later = has_place b below in
      omega (
        arith,
        cylinder-of a (omega arith),
        cylinder-of b below,
        before_later a b first.cylinder later.cylinder first.sector later.sector first.is later.is le,
      )

  -- a cylinder has sectors
  some-sectors : (cylinder : ℕ) → cylinder < cylinders_of disk.zones → 0 < length (data_list_at disk cylinder)
  some-sectors cylinder h = let by = by_zone cylinder h in
      omega (arith, size-by_zone by.index by.zone cylinder by.holds, sound.some_data by.index by.zone by.holds.zone_is)

  pub first-is : (cylinder : ℕ) → cylinder < cylinders_of disk.zones → IsFirstOf disk cylinder (sectors_before disk cylinder)
  first-is cylinder h =
      let some = some-sectors cylinder h in
      let upto = before-rise (cylinder + 1) (cylinders_of disk.zones) (omega arith) in
      let on_disk : sectors_before disk cylinder < length (places disk) = omega (arith, before_next cylinder, count-is) in
      let place = element_at (data_list_at disk cylinder) 0 some in
      let at = place_is (sectors_before disk cylinder) place.0 (at_sector cylinder 0 (sectors_before disk cylinder) h some (omega arith)
      ∙ place.1) in
      record {
        on_disk = on_disk;
        here = ap (λ place. place.track.cylinder) at ∙ (own-at cylinder 0 place.0 h place.1).cylinder_is;
        least = λ other below here.
            let found = has_place other below in
            let same : found.cylinder ≡ cylinder = sym (cylinder-of other below) ∙ here in
            omega (arith, found.is.number, ap (sectors_before disk) same);
      }

  only_first : (cylinder lbn : ℕ) → cylinder < cylinders_of disk.zones → IsFirstOf disk cylinder lbn → lbn ≡ sectors_before disk cylinder
  only_first cylinder lbn h first =
      let least = first-is cylinder h in
      omega (arith, first.least (sectors_before disk cylinder) least.on_disk least.here, least.least lbn first.on_disk first.here)

  -- a place that is in no cylinder's list has no sector
  pub not_placed : (place : Place) → ((j : ℕ) → slice_get (data_list_at disk place.track.cylinder) j ≡ Some place → ⊥) → (lbn : ℕ)
      → IsAt disk lbn place → ⊥
  not_placed place none lbn at =
      let found = has_place lbn (slice_get_within (places disk) lbn place at) in
      let same : found.place ≡ place = sym found.placed_at ∙ place_is lbn place at in
      let cylinder : found.cylinder ≡ place.track.cylinder = sym found.lies.cylinder_is ∙ ap (λ place. place.track.cylinder) same in
      none found.sector (ap (λ c. slice_get (data_list_at disk c) found.sector) (sym cylinder) ∙ (found.listed ∙ ap Some same))

  -- a place in a cylinder's list, counted from the cylinder's first sector
  pub numbered : (first j : ℕ) (place : Place) → place.track.cylinder < cylinders_of disk.zones → IsFirstOf disk place.track.cylinder first
      → slice_get (data_list_at disk place.track.cylinder) j ≡ Some place
      → (first + j < 2 ^ 64) × IsAt disk (first + j) place
  numbered first j place on_disk is listed =
      let cylinder = place.track.cylinder in
      let inside = slice_get_within (data_list_at disk cylinder) j place listed in
      let number : first + j ≡ sectors_before disk cylinder + j = omega (arith, only_first cylinder first on_disk is) in (
        omega (arith, only_first cylinder first on_disk is, before-few cylinder (omega arith), size-few cylinder on_disk),
        at_sector cylinder j (first + j) on_disk inside number ∙ listed,
      )
