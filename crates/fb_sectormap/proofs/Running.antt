-- The sectors of a cylinder and their places.
use Rattle.fb_sectormap.proofs.Words.{◌≡◌, ℕ, ◌+◌, ◌-◌, ◌*◌, ◌^◌, ◌<◌, ◌≤◌, length, ap, sym, ◌∙◌, arith, Some, subst, slice_get}
use Rattle.fb_sectormap.proofs.Words.{slice_get_within, element_at, Place, Shape, slots_at, cylinders_of, places, data_list_at, IsSound}
use Rattle.fb_sectormap.proofs.Words.{IsAt, place_at, track_at, IsSectorOf, sectors_before}
use Rattle.fb_geometry.specs.Shape.{IsTrackOf}
use Rattle.fb_sectormap.proofs.ByCylinder.{placed, place_is, own-at, size-few, count_few}

-- what is known of the place of a sector
pub record Placed (disk : Shape) (cylinder lbn : ℕ) (place : Place) : Type 0 where
  pub at : IsAt disk lbn place
  pub value : place ≡ place_at disk lbn
  pub cylinder_is : place.track.cylinder ≡ cylinder
  pub track : IsTrackOf disk place.track
  pub slot : place.slot < slots_at disk.zones place.track.cylinder

module _ (disk : Shape) (sound : IsSound disk) (cylinder j lbn : ℕ) (is : IsSectorOf disk cylinder j lbn) where
  pub placed_on : (place : Place) → slice_get (data_list_at disk cylinder) j ≡ Some place → Placed disk cylinder lbn place
  placed_on place listed =
      let at = placed disk sound cylinder j lbn place is listed in
      let lies = own-at disk sound cylinder j place is.on_disk listed in
      record {
        at = at;
        value = sym (place_is disk sound lbn place at);
        cylinder_is = lies.cylinder_is;
        track = record { cylinder = omega (arith, lies.cylinder_is, is.on_disk); head = lies.head };
        slot = subst (λ c. place.slot < slots_at disk.zones c) (sym lies.cylinder_is) lies.slot;
      }

  pub cylinder_of_sector : (lbn < length (places disk)) × ((track_at disk lbn).cylinder ≡ cylinder)
  cylinder_of_sector =
      let place = element_at (data_list_at disk cylinder) j is.inside in
      let its = placed_on place.0 place.1 in
      (slice_get_within (places disk) lbn place.0 its.at, ap (λ (p : Place). p.track.cylinder) (sym its.value) ∙ its.cylinder_is)

  pub end_fits : (sectors : ℕ) → sectors ≡ length (data_list_at disk cylinder) → lbn - j + sectors ≤ 2 * 10 ^ 12
  end_fits sectors e = omega (arith, e, size-few disk sound cylinder is.on_disk, count_few disk sound, cylinder_of_sector.0)

module _ (disk : Shape) (cylinder first end : ℕ) (on : cylinder < cylinders_of disk.zones) (starts : first ≡ sectors_before disk cylinder)
    (ends : end ≡ first + length (data_list_at disk cylinder)) (lbn : ℕ) (from : first ≤ lbn) (before : lbn < end) where
  -- a sector between the first one of a cylinder and the end is on it
  pub sector_between : IsSectorOf disk cylinder (lbn - first) lbn
  sector_between = record { on_disk = on; inside = omega (arith, ends); number = omega (arith, starts) }
