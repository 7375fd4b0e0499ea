-- Stretches of a cylinder, by the numbers of their sectors.
use Rattle.fb_sectormap.proofs.Words.{◌≡◌, ℕ, ◌+◌, ◌-◌, ◌%◌, ◌<◌, ◌≤◌, length, ap, sym, ◌∙◌, arith, Some, slice_get, slice_get_within}
use Rattle.fb_sectormap.proofs.Words.{Shape, slots_at, places, data_list_at, IsSound, IsStretch, IsAt, place_at, neighbour, IsSectorOf}
use Rattle.fb_geometry.specs.declared.stretch.Stretch.{Stretch}
use Rattle.fb_sectormap.proofs.ByCylinder.{at_sector, own-at, place_is}

module _ (disk : Shape) (sound : IsSound disk) (cylinder j lbn : ℕ) (stretch : Stretch) (is : IsSectorOf disk cylinder j lbn)
    (goes : IsStretch disk cylinder j stretch) where
  pub on_cylinder : stretch.place.track.cylinder ≡ cylinder
  on_cylinder = (own-at disk sound cylinder j stretch.place is.on_disk goes.first).cylinder_is

  -- the i-th sector of the stretch is i slots on
  pub listed-on : (i : ℕ) → i < stretch.count → slice_get (data_list_at disk cylinder) (j + i) ≡ Some (neighbour disk stretch.place i)
  listed-on i less = goes.next i less
      ∙ ap (λ c. Some (record { track = stretch.place.track; slot = (stretch.place.slot + i) % slots_at disk.zones c })) (sym on_cylinder)

  pub at-on : (i : ℕ) → i < stretch.count → IsAt disk (lbn + i) (neighbour disk stretch.place i)
  at-on i less =
      let inside = slice_get_within (data_list_at disk cylinder) (j + i) (neighbour disk stretch.place i) (listed-on i less) in
      at_sector disk sound cylinder (j + i) (lbn + i) is.on_disk inside (omega (arith, is.number)) ∙ listed-on i less

  pub place-on : (i : ℕ) → i < stretch.count → place_at disk (lbn + i) ≡ neighbour disk stretch.place i
  place-on i less = place_is disk sound (lbn + i) (neighbour disk stretch.place i) (at-on i less)

  pub within-disk : lbn + stretch.count ≤ length (places disk)
  within-disk =
      let last : stretch.count - 1 < stretch.count = omega (arith, goes.some) in
      let below = slice_get_within (places disk) (lbn + (stretch.count - 1)) (neighbour disk stretch.place (stretch.count - 1))
      (at-on (stretch.count - 1) last) in
      omega (arith, goes.some)
