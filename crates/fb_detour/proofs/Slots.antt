-- How many slots the tracks of a range of cylinders have at most.
use Rattle.fb_detour.proofs.Words.{List, Some, ap, arith, drop, false, if◌then◌else◌, inl, inr, max, nat_le, refl, slice_get, true, ℕ, ◌+◌}
use Rattle.fb_detour.proofs.Words.{◌-◌, ◌<◌, ◌∙◌, ◌≡◌, ◌≤◌, cases_lt, nat_tests, drop_more, get_or_from_slice_get, slice_get_within}
use Rattle.fb_detour.proofs.Words.{slots_at, Zone}

-- the slots of a track are no more than the most so far, or than those of the zones to come
abbrev pub AreMost : List Zone → ℕ → ℕ → ℕ → ℕ → Type 0
AreMost zones from end i slots = (cylinder : ℕ) → from ≤ cylinder → cylinder < end → slots_at zones cylinder
    ≤ max slots (slots_at (drop i zones) cylinder)

at_zone : (zones : List Zone) (i cylinder : ℕ) (zone : Zone) → slice_get zones i ≡ Some zone
    → slots_at (drop i zones) cylinder ≡ (if nat_le cylinder zone.last then zone.sectors else slots_at (drop (i + 1) zones) cylinder)
at_zone zones i cylinder zone at =
    let here = get_or_from_slice_get zones i zone zone at in
    ap (λ zs. slots_at zs cylinder) (drop_more zones i zone (slice_get_within zones i zone at))
    ∙ ap (λ (z : Zone). if nat_le cylinder z.last then z.sectors else slots_at (drop (i + 1) zones) cylinder) here

module _ (zones : List Zone) (from end i slots new : ℕ) (zone : Zone) (at : slice_get zones i ≡ Some zone)
    (more : new ≡ max slots (if nat_le from zone.last then zone.sectors else 0))
    (most : AreMost zones from end i slots) where
  in_zone : (cylinder : ℕ) → from ≤ cylinder → cylinder < end → cylinder ≤ zone.last → slots_at zones cylinder ≤ new
  in_zone cylinder low high on =
      let reached : nat_le from zone.last ≡ true = grind (arith, nat_tests) in
      let inside : nat_le cylinder zone.last ≡ true = grind (arith, nat_tests) in
      let here : slots_at (drop i zones) cylinder ≡ zone.sectors = at_zone zones i cylinder zone at ∙ rw inside refl in
      let grown : new ≡ max slots zone.sectors = more ∙ rw reached refl in
      omega (arith, most cylinder low high, here, grown)

  -- a zone more
  pub zone-more : AreMost zones from end (i + 1) new
  zone-more cylinder low high = elim (cases_lt zone.last cylinder) [
    | inl behind ↦
        let outside : nat_le cylinder zone.last ≡ false = grind (arith, nat_tests) in
        let here : slots_at (drop i zones) cylinder ≡ slots_at (drop (i + 1) zones) cylinder = at_zone zones i cylinder zone at
        ∙ rw outside refl in
        omega (arith, most cylinder low high, here, more)
    | inr on ↦ omega (arith, in_zone cylinder low high on)
  ]

  -- the last of them
  pub zone-last : end - 1 ≤ zone.last → (cylinder : ℕ) → from ≤ cylinder → cylinder < end → slots_at zones cylinder ≤ new
  zone-last ends cylinder low high = in_zone cylinder low high (omega (arith, ends, high))
