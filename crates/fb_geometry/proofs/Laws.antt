-- How many slots are good, and how many sectors a cylinder has.
use Rattle.fb_units.proofs.Counts.{at_most_each, kept_and_dropped, length-filter-map, once_in}
use Rattle.fb_units.proofs.Lists.{all_dropped}
use Rattle.fb_units.proofs.Parts.{length-parts}
use Rattle.fb_units.proofs.Tracks.{same_tracks}
use Rattle.fb_geometry.proofs.Words.{AllByRecursion, Bool, IsZoneAt, Layout, List, None, PerCylinder, PerTrack, Place, Shape}
use Rattle.fb_geometry.proofs.Words.{TooManyDefects, TooManyInCylinder, Track, Zone, [], and_parts, ap, arith, by_head, cond}
use Rattle.fb_geometry.proofs.Words.{cylinder_size_by, cylinder_slots, cylinder_spares_at, data_list_by, drop, eq-eqb, eqb-true, false}
use Rattle.fb_geometry.proofs.Words.{filter, filter-append, good_track, has_no_data, inl, is_among, is_full_cylinder, is_full_track}
use Rattle.fb_geometry.proofs.Words.{is_track_before, length, length-append, length-map-range_with_len, length-range_with_len}
use Rattle.fb_geometry.proofs.Words.{length-take-le, map, mul-le, nat_lt, nat_tests, not, position_in, range_with_len, refl, replaced}
use Rattle.fb_geometry.proofs.Words.{same_place, same_track, slot_at, spare_fault, spares_at, stand_in, subst, suc, sym, take, true, ℕ}
use Rattle.fb_geometry.proofs.Words.{◌*◌, ◌++◌, ◌+◌, ◌-◌, ◌<◌, ◌==◌, ◌∙◌, ◌∷◌, ◌≡◌, ◌≤◌, ◌⊎◌}
use Rattle.fb_geometry.proofs.{Turns.good_cylinder-is, Turns.position_in-slot_at, Turns.length-cylinder_slots, Turns.good_track-is}
use Rattle.fb_geometry.proofs.{Turns.slot_on, Faultless.fault_at-none, Faultless.or_else-none, Faultless.least-none}
use Rattle.fb_geometry.proofs.{Faultless.spares_at-zone, Faultless.cylinder_spares_at-zone}

-- ---- counts

pub same_places : (a b : Place) → same_place a b ≡ true → a ≡ b
same_places a b h = let parts = and_parts (same_track a.track b.track) (a.slot == b.slot) h in
    rw (same_tracks a.track b.track parts.0, eqb-true a.slot b.slot parts.1) refl

module _ (zone : Zone) (some : 0 < zone.sectors) where
  -- a place is no more than once among slots that follow one another, and only where it can be
  once_among : (heads cylinder a n : ℕ) (d : Place) (can : Bool) → ((i : ℕ) → i < n → slot_at zone heads cylinder (a + i) ≡ d → can ≡ true)
      → length (filter (λ place. same_place place d) (map (slot_at zone heads cylinder) (range_with_len a n))) ≤ cond can 1 0
  once_among heads cylinder a n d can so =
      let slot = slot_at zone heads cylinder in
      let once = once_in (λ p. same_place (slot p) d) can (position_in zone heads d) a n (λ i l t.
      let same = same_places (slot (a + i)) d t in
      (so i l same, sym (position_in-slot_at zone heads some cylinder (a + i)) ∙ ap (position_in zone heads) same)) in
      omega (arith, once, length-filter-map (λ place. same_place place d) slot (range_with_len a n))

  pub length-good_track : (disk : Shape) (track : Track) → length (filter (λ place. same_track track place.track) disk.defects)
      ≤ zone.spares → zone.sectors - zone.spares ≤ length (good_track disk zone track)
  length-good_track disk track few =
      let first = track.head * zone.sectors in
      let slots = map (slot_at zone disk.heads track.cylinder) (range_with_len first zone.sectors) in
      let own : same_track track track ≡ true = grind (arith, nat_tests) in
      let each = λ (d : Place). once_among disk.heads track.cylinder first zone.sectors d (same_track track d.track)
      (λ i l same. subst (λ d. same_track track d.track ≡ true)
      (sym (slot_on zone disk.heads some track.cylinder track.head i l) ∙ same) own) in
      let bad = at_most_each same_place (λ place. same_track track place.track) slots disk.defects each in
      let whole = ap length (good_track-is disk zone some track) in
      let many = length-map-range_with_len (slot_at zone disk.heads track.cylinder) first zone.sectors in
      omega (arith, bad, whole, many, kept_and_dropped (is_among disk.defects) slots)

  -- one slot of a cylinder
  pub once_on_cylinder : (heads cylinder : ℕ) (d : Place)
      → length (filter (λ place. same_place place d) (cylinder_slots zone heads cylinder)) ≤ cond (d.track.cylinder == cylinder) 1 0
  once_on_cylinder heads cylinder d = once_among heads cylinder 0 (heads * zone.sectors) d (d.track.cylinder == cylinder)
      (λ i l same. eq-eqb d.track.cylinder cylinder (sym (ap (λ place. place.track.cylinder) same)))

-- ---- spares are enough

-- a test that none of the keys passes is passed by a key, or no place has that key
none_or_not : {K : Type 0} (same : K → Bool) (full : K → Bool) (key : Place → K) (at : K)
    → ((k : K) → same k ≡ true → at ≡ k) → (places : List Place)
    → AllByRecursion (λ k. full k ≡ false) (map key places) → (length (filter (λ place. same (key place)) places) ≡ 0) ⊎ (full at ≡ false)
none_or_not same full key at is [] all = inl refl
none_or_not same full key at is (place ∷ places) all =
    grind (arith, is (key place), all.0, none_or_not same full key at is places all.1)

pub few_on_track : (disk : Shape) (track : Track) → spare_fault PerTrack disk ≡ None
    → length (filter (λ place. same_track track place.track) disk.defects) ≤ spares_at disk.zones track.cylinder
few_on_track disk track h =
    let full = all_dropped (is_full_track disk) _ (least-none is_track_before _ (fault_at-none TooManyDefects _ h)) in
    let one = none_or_not (same_track track) (is_full_track disk) (λ place. place.track) track (same_tracks track) disk.defects full in
    grind (arith, nat_tests, one)

pub few_on_cylinder : (disk : Shape) (cylinder : ℕ) → spare_fault PerCylinder disk ≡ None
    → length (filter (λ place. place.track.cylinder == cylinder) (disk.defects ++ disk.grown)) ≤ cylinder_spares_at disk.zones cylinder
few_on_cylinder disk cylinder h =
    let full : AllByRecursion (λ k. is_full_cylinder disk k ≡ false) (map (λ place. place.track.cylinder) (disk.defects ++ disk.grown)) =
    all_dropped (is_full_cylinder disk) _ (least-none nat_lt _
    (fault_at-none TooManyInCylinder _ (or_else-none _ _ (or_else-none _ _ h).1).1)) in
    let one = none_or_not (λ k. k == cylinder) (is_full_cylinder disk) (λ place. place.track.cylinder) cylinder
    (λ k e. sym (eqb-true k cylinder e)) (disk.defects ++ disk.grown) full in
    grind (arith, nat_tests, one)

-- ---- each cylinder of a zone holds as many

length-replaced : (disk : Shape) (places spares : List Place) → length (replaced disk places spares) ≡ length places
length-replaced disk [] spares = refl
length-replaced disk (place ∷ places) spares = ap suc (length-replaced disk places (stand_in (is_among disk.grown place) place spares).1)

module _ (disk : Shape) (zone : Zone) (cylinder : ℕ) (at : IsZoneAt disk cylinder zone) where
  some_sectors : 0 < zone.sectors
  some_sectors = at.ranges.some_sectors

  pub length-track : (head : ℕ) → spare_fault PerTrack disk ≡ None
      → length (take (zone.sectors - zone.spares) (good_track disk zone (record { cylinder = cylinder; head = head })))
      ≡ zone.sectors - zone.spares
  length-track head h =
      let track : Track = record { cylinder = cylinder; head = head } in
      length-take-le (zone.sectors - zone.spares) (good_track disk zone track) (length-good_track zone some_sectors disk track
      (omega (arith, few_on_track disk track h, spares_at-zone disk.zones cylinder zone at.found)))

  -- the good list reaches over the base list
  pub length-good : disk.heads * zone.sectors ≤ length (by_head disk cylinder (good_track disk zone)) + length
      (filter (λ place. place.track.cylinder == cylinder) disk.defects)
  length-good = let slots = cylinder_slots zone disk.heads cylinder in
      let bad = at_most_each same_place (λ place. place.track.cylinder == cylinder) slots disk.defects
      (once_on_cylinder zone some_sectors disk.heads cylinder) in
      let whole = ap length (good_cylinder-is disk zone some_sectors cylinder) in
      let many = length-cylinder_slots zone disk.heads some_sectors cylinder in
      omega (arith, bad, whole, many, kept_and_dropped (is_among disk.defects) slots)

  pub few_flaws : spare_fault PerCylinder disk ≡ None → length (filter (λ place. place.track.cylinder == cylinder) disk.defects) + length
      (filter (λ place. place.track.cylinder == cylinder) disk.grown) ≤ zone.cylinder_spares
  few_flaws h =
      let on = λ (place : Place). place.track.cylinder == cylinder in
      let both = ap length (filter-append on disk.defects disk.grown) ∙ length-append (filter on disk.defects) (filter on disk.grown) in
      omega (arith, both, few_on_cylinder disk cylinder h, cylinder_spares_at-zone disk.zones cylinder zone at.found)

  pub length_data_list : (layout : Layout) → spare_fault layout disk ≡ None → length (data_list_by layout disk zone cylinder)
      ≡ cylinder_size_by layout disk zone
  length_data_list PerTrack h =
      length-parts (λ head. take (zone.sectors - zone.spares) (good_track disk zone (record { cylinder = cylinder; head = head })))
      (zone.sectors - zone.spares) (λ head. length-track head h) (range_with_len 0 disk.heads)
      ∙ ap (λ n. n * (zone.sectors - zone.spares)) (length-range_with_len 0 disk.heads)
  length_data_list PerCylinder h =
      let good = by_head disk cylinder (good_track disk zone) in
      let base = disk.heads * zone.sectors - zone.cylinder_spares in
      length-replaced disk (take base good) (filter (λ place. not (is_among disk.grown place)) (drop base good))
      ∙ length-take-le base good (omega (arith, length-good, few_flaws h))

pub some_size : (layout : Layout) (disk : Shape) (zone : Zone) → 0 < disk.heads → has_no_data layout disk zone ≡ false
    → 0 < cylinder_size_by layout disk zone
some_size PerTrack disk zone some h = let left : zone.spares < zone.sectors = grind (arith, nat_tests) in
    omega (arith, mul-le 1 1 disk.heads (zone.sectors - zone.spares) (omega arith) (omega arith))
some_size PerCylinder disk zone some h = grind (arith, nat_tests)

-- ---- each entry is a slot of its cylinder
