-- What follows for an outline without a fault: its places, and when they pass.
use Rattle.fb_model.proofs.Words.{◌≡◌, ℕ, suc, ◌+◌, ◌-◌, ◌*◌, ◌%◌, ◌<◌, ◌≤◌, List, [], ◌∷◌, length, refl, ap, sym, subst, ◌∙◌, arith, Some}
use Rattle.fb_model.proofs.Words.{slice_get, flat_map, sum_by, mul-le, length-append, sum_by-cons, Place, wait_least, Zone, Shape}
use Rattle.fb_model.proofs.Words.{slots_at, cylinders_of, slot_begin, places, IsSound, LiesOn, place_at, has_place, begin_angle}
use Rattle.fb_model.proofs.Words.{begin_from}
use Rattle.std.proofs.lemmas.Nat.{div_below}
use Rattle.fb_geometry.specs.Places.{zone_places, data_list}
use Rattle.fb_geometry.specs.Sound.{HasOwnPlaces, cylinder_size}
use Rattle.fb_geometry.specs.Kept.{IsFaultless}
use Rattle.fb_geometry.proofs.Faultless.{zone_by_bounds, slots_at-zone}
use Rattle.fb_geometry.proofs.Judging.{faultless, fits_per_track}
use Rattle.fb_geometry.proofs.Once.{sound, own_places}
use Rattle.fb_sectormap.proofs.Parts.{length-same}
use Rattle.fb_sectormap.proofs.ByCylinder.{by_zone}
use Rattle.fb_model.specs.Laws.{IsFirstAt, IsDisk, zone_size}

is_faultless : (disk : Shape) → IsDisk disk → IsFaultless disk
is_faultless disk h = faultless disk h.faultless

pub is_sound : (disk : Shape) → IsDisk disk → IsSound disk
is_sound disk h = sound disk (is_faultless disk h)

pub are_own : (disk : Shape) → IsDisk disk → HasOwnPlaces disk
are_own disk h = own_places disk (is_faultless disk h) (fits_per_track disk.layout disk h.fits)

-- ---- how many places there are

zone_length : (disk : Shape) (i : ℕ) (zone : Zone) → IsSound disk → slice_get disk.zones i ≡ Some zone
    → length (zone_places disk zone) ≡ zone_size disk zone
zone_length disk i zone h at =
    let some = h.some_cylinders i zone at in
    length-same (data_list disk zone) zone.first (zone.last + 1 - zone.first) (cylinder_size disk zone)
    (λ c from below. h.equal i zone c (record { zone_is = at; from = from; upto = omega arith }))

zones_length : (disk : Shape) (zones : List Zone)
    → ((i : ℕ) (zone : Zone) → slice_get zones i ≡ Some zone → length (zone_places disk zone) ≡ zone_size disk zone)
    → length (flat_map (zone_places disk) zones) ≡ sum_by (zone_size disk) zones
zones_length disk [] each = refl
zones_length disk (zone ∷ zones) each =
    length-append (zone_places disk zone) (flat_map (zone_places disk) zones)
    ∙ ap (λ n. n + length (flat_map (zone_places disk) zones)) (each 0 zone refl)
    ∙ ap (λ n. zone_size disk zone + n) (zones_length disk zones (λ i. each (suc i)))
    ∙ sym (sum_by-cons (zone_size disk) zone zones)

pub places_length : (disk : Shape) → IsDisk disk → length (places disk) ≡ sum_by (zone_size disk) disk.zones
unfolding places
places_length disk h = zones_length disk disk.zones (λ i zone at. zone_length disk i zone (is_sound disk h) at)

-- ---- when they pass

first_at : (disk : Shape) (place : Place) (t : ℕ) → begin_angle disk place < disk.rotation
    → IsFirstAt disk.rotation (begin_angle disk place) t (begin_from disk place t)
unfolding begin_from
first_at disk place t h =
    let least = wait_least disk.rotation (begin_angle disk place) t h in
    record {
      reached = least.reaches;
      from = omega arith;
      first = λ other from at.
          let waited = least.least (other - t) (ap (λ x. x % disk.rotation) (let same : t + (other - t) ≡ other = omega arith in same)
          ∙ at) in omega arith;
    }

-- a slot of a track begins before the rotation ends
pub begins_within : (rotation n slot : ℕ) → n ≤ rotation → slot < n → slot_begin rotation n slot < rotation
begins_within rotation n slot short inside =
    div_below (slot * rotation) n rotation (omega arith) (omega (arith, mul-le (slot + 1) rotation n rotation (omega arith) (omega arith)))

begins_on : (disk : Shape) (cylinder : ℕ) (place : Place) → IsSound disk → IsFaultless disk → cylinder < cylinders_of disk.zones
    → LiesOn disk cylinder place → begin_angle disk place < disk.rotation
begins_on disk cylinder place h k below lies =
    let by = by_zone disk h cylinder below in
    let here = zone_by_bounds disk k by.index by.zone cylinder by.holds in
    begins_within disk.rotation (slots_at disk.zones place.track.cylinder) place.slot
    (omega (arith, ap (slots_at disk.zones) lies.cylinder_is, slots_at-zone disk.zones cylinder by.zone here.found, here.short))
    (omega (arith, ap (slots_at disk.zones) lies.cylinder_is, lies.slot))

pub begins_first : (disk : Shape) (lbn t : ℕ) → IsDisk disk → lbn < length (places disk)
    → IsFirstAt disk.rotation (begin_angle disk (place_at disk lbn)) t (begin_from disk (place_at disk lbn) t)
begins_first disk lbn t h on_disk =
    let found = has_place disk (is_sound disk h) lbn on_disk in
    first_at disk (place_at disk lbn) t (subst (λ (place : Place). begin_angle disk place < disk.rotation) (sym found.placed_at)
    (begins_on disk found.cylinder found.place (is_sound disk h) (is_faultless disk h) found.is.on_disk found.lies))
