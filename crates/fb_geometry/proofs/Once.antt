-- An accepted outline is sound: no place is twice among its places, and no bad one is among them.
use Rattle.fb_units.proofs.Distinct.{Distinct, distinct-append, distinct-parts, distinct_from, one_index}
use Rattle.fb_units.proofs.Each.{flat_all}
use Rattle.fb_units.proofs.Lists.{all_from_index, all_get, all_weaker}
use Rattle.fb_units.proofs.Parts.{all-parts}
use Rattle.fb_geometry.proofs.Words.{AllByRecursion, HasOwnPlaces, IsFaultless, IsSound, IsZoneAt, List, Pairwise, PerTrack, Place, Shape}
use Rattle.fb_geometry.proofs.Words.{Some, Zone, [], arith, data_list, false, flat_map, is_among, nat_tests, places, refl, slice_get, suc}
use Rattle.fb_geometry.proofs.Words.{zone_places, ℕ, ◌+◌, ◌-◌, ◌<◌, ◌∷◌, ◌≡◌, ◌≤◌}
use Rattle.fb_geometry.proofs.{Faultless.zones_follow, Faultless.Follow, Faultless.zone_by_bounds, Faultless.ranges_of}
use Rattle.fb_geometry.proofs.{Faultless.some_zones, Faultless.few_cylinders, Faultless.data_of, Faultless.short_slots}
use Rattle.fb_geometry.proofs.{Laws.length_data_list, Laws.some_size, Lookups.entry_of, Lookups.one_index_on}

-- ---- the whole disk

module _ (disk : Shape) (h : IsFaultless disk) where
  -- the place is on a cylinder of the zone
  abbrev OnZone : Zone → Place → Type 0
  OnZone zone place = (zone.first ≤ place.track.cylinder) × (place.track.cylinder ≤ zone.last)

  -- the place is no defect, and no grown one
  abbrev pub IsClean : Place → Type 0
  IsClean place = (is_among disk.defects place ≡ false) × (is_among disk.grown place ≡ false)

  -- what each zone's list keeps, all places keep
  all_zones : (P : Place → Type 0) (zones : List Zone) → ((i : ℕ) (zone : Zone) → slice_get zones i ≡ Some zone
      → AllByRecursion P (zone_places disk zone)) → AllByRecursion P (flat_map (zone_places disk) zones)
  all_zones P zones each = flat_all P (zone_places disk) zones (all_from_index _ zones each)

  -- a cylinder between the bounds of a zone is that zone's
  at_cylinder : (i : ℕ) (zone : Zone) (k : ℕ) → slice_get disk.zones i ≡ Some zone → zone.first ≤ k
      → k < zone.first + (zone.last + 1 - zone.first) → IsZoneAt disk k zone
  at_cylinder i zone k at from upto = zone_by_bounds disk h i zone k (record { zone_is = at; from = from; upto = omega arith })

  -- what the list of each cylinder of a zone keeps, its list keeps
  all_of_zone : (P : Place → Type 0) (i : ℕ) (zone : Zone) → slice_get disk.zones i ≡ Some zone
      → ((k j : ℕ) (place : Place) → IsZoneAt disk k zone → slice_get (data_list disk zone k) j ≡ Some place → P place)
      → AllByRecursion P (zone_places disk zone)
  all_of_zone P i zone at each = all-parts P (data_list disk zone) zone.first (zone.last + 1 - zone.first)
      (λ k from upto. all_from_index P (data_list disk zone k) (λ j place. each k j place (at_cylinder i zone k at from upto)))

  zone_cylinders : (i : ℕ) (zone : Zone) → slice_get disk.zones i ≡ Some zone → AllByRecursion (OnZone zone) (zone_places disk zone)
  zone_cylinders i zone at = all_of_zone (OnZone zone) i zone at (λ k j place here found.
      let on = (entry_of disk zone k here j place found).0.cylinder_is in (omega (arith, on, here.from), omega (arith, on, here.upto)))

  distinct_zone : (i : ℕ) (zone : Zone) → slice_get disk.zones i ≡ Some zone → Distinct (zone_places disk zone)
  distinct_zone i zone at = distinct-parts (λ place. place.track.cylinder) (data_list disk zone) zone.first (zone.last + 1 - zone.first)
      (λ k from upto. let here = at_cylinder i zone k at from upto in
      let on = all_from_index (λ place. place.track.cylinder ≡ k) (data_list disk zone k)
      (λ j place found. (entry_of disk zone k here j place found).0.cylinder_is) in
      (distinct_from (data_list disk zone k) (one_index_on disk zone k here), on))

  distinct_zones : (zones : List Zone) → Pairwise Follow zones → ((i : ℕ) (zone : Zone) → slice_get zones i ≡ Some zone
      → Distinct (zone_places disk zone) × AllByRecursion (OnZone zone) (zone_places disk zone))
      → Distinct (flat_map (zone_places disk) zones)
  distinct_zones [] up each = tt
  distinct_zones (zone ∷ zones) up each =
      let here = each 0 zone refl in
      let behind : AllByRecursion (λ place. zone.last < place.track.cylinder) (flat_map (zone_places disk) zones) =
      all_zones (λ place. zone.last < place.track.cylinder) zones (λ i other at.
      all_weaker (OnZone other) (λ place. zone.last < place.track.cylinder)
      (λ place on. omega (arith, on.0, (all_get (Follow zone) zones i other up.0 at).0)) (zone_places disk other)
      (each (suc i) other at).1) in
      distinct-append (λ place. place.track.cylinder) zone.last (zone_places disk zone) (flat_map (zone_places disk) zones) here.0
      (distinct_zones zones up.1 (λ i. each (suc i)))
      (all_weaker (OnZone zone) (λ place. place.track.cylinder ≤ zone.last) (λ place on. on.1) (zone_places disk zone) here.1) behind

  pub distinct_places : Distinct (places disk)
  unfolding places
  distinct_places = distinct_zones disk.zones (zones_follow disk h.zones_hold)
      (λ i zone at. (distinct_zone i zone at, zone_cylinders i zone at))

  -- no entry is a defect, or a grown one
  pub clean_places : (disk.layout ≡ PerTrack → disk.grown ≡ []) → AllByRecursion IsClean (places disk)
  unfolding places
  clean_places fits = all_zones IsClean disk.zones (λ i zone at. all_of_zone IsClean i zone at (λ k j place here found.
      let one = entry_of disk zone k here j place found in (one.1, one.2 fits)))

pub own_places : (disk : Shape) → IsFaultless disk → (disk.layout ≡ PerTrack → disk.grown ≡ []) → HasOwnPlaces disk
own_places disk h fits = record {
  once = λ i j place at again. one_index (places disk) i j place (distinct_places disk h) at again;
  no_defect = λ i place at. (all_get (IsClean disk h) (places disk) i place (clean_places disk h fits) at).0;
  no_grown = λ i place at. (all_get (IsClean disk h) (places disk) i place (clean_places disk h fits) at).1;
}

pub sound : (disk : Shape) → IsFaultless disk → IsSound disk
sound disk h = record {
  some_rotation = grind (arith, nat_tests, h.zones_hold.in_range);
  short_rotation = grind (arith, nat_tests, h.zones_hold.in_range);
  some_heads = grind (arith, nat_tests, h.zones_hold.in_range);
  few_heads = grind (arith, nat_tests, h.zones_hold.in_range);
  some_zones = some_zones disk h.zones_hold;
  few_zones = grind (arith, nat_tests, h.zones_hold.in_range);
  contiguous = h.zones_hold.contiguous;
  some_cylinders = λ i zone at. (ranges_of disk h.zones_hold i zone at).some_cylinders;
  few_cylinders = few_cylinders disk h.zones_hold;
  equal = λ i zone cylinder at. length_data_list disk zone cylinder (zone_by_bounds disk h i zone cylinder at) disk.layout h.spares;
  some_data = λ i zone at. some_size disk.layout disk zone (grind (arith, nat_tests, h.zones_hold.in_range))
      (data_of disk h.zones_hold i zone at);
  few_slots = λ i zone at. (ranges_of disk h.zones_hold i zone at).few_sectors;
  short_slots = short_slots disk h.zones_hold;
  own = λ i zone cylinder j place at found. (entry_of disk zone cylinder (zone_by_bounds disk h i zone cylinder at) j place found).0;
}
