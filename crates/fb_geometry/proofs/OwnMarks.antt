-- The marks of an accepted outline say which slots of each cylinder are bad.
use Rattle.fb_units.proofs.Among.{Among, among-any, among-mapped, any-among}
use Rattle.fb_units.proofs.Lists.{all_dropped, all_get, all_weaker, map_at}
use Rattle.fb_geometry.proofs.Words.{AreInOrder, AreMarksOf, Bool, HasZones, IsAscending, AreOwnMarks, IsZoneAt, List, Mark, Pairwise}
use Rattle.fb_geometry.proofs.Words.{Place, Shape, Some, Zone, [], among_unmarked, ap, arith, by_head, cases_order, cylinder_slots}
use Rattle.fb_geometry.proofs.Words.{eq-eqb, false, filter, good_track, indexes, inl, inr, is_among, is_mark_before, is_outside, list_any}
use Rattle.fb_geometry.proofs.Words.{map, mark_of, marks_on, nat_tests, or_left, position_in, positions, rank, refl, same_Some, same_mark}
use Rattle.fb_geometry.proofs.Words.{same_place, slice_get, slice_get_within, slot_at, subst, suc, sym, true, true≢false, zone_at, ℕ, ◌*◌}
use Rattle.fb_geometry.proofs.Words.{◌+◌, ◌-◌, ◌<◌, ◌==◌, ◌∙◌, ◌∷◌, ◌≡◌}
use Rattle.fb_geometry.proofs.{Slips.pairwise-map, Slips.all_over, Slips.not_among_later, Slips.indexes-ascend, Slips.is_marked_at}
use Rattle.fb_geometry.proofs.{Slips.index_of, Slips.goes, Slips.rank_free, Slips.rank-below, Turns.get-cylinder_slots}
use Rattle.fb_geometry.proofs.{Turns.length-cylinder_slots, Turns.good_cylinder-is, Faultless.slots_at-zone}
use Rattle.fb_geometry.proofs.{Laws.same_places, Lookups.slot_of, Lookups.good_lies, Lookups.defects_of, Lookups.good_of}
use Rattle.fb_geometry.proofs.{Marking.marks_on-ascend, Marking.position_is, Marking.mark_of-slot_at, Marking.on_disk, Marking.among-on}
use Rattle.fb_geometry.proofs.{Marking.same_marks, Marking.same_mark-refl}
use Rattle.fb_geometry.proofs.{Clashes.same_place-refl, Clashes.mark_among, Clashes.place_among, Clashes.inside_of}
use Rattle.fb_geometry.proofs.{Clashes.among_others}

-- ---- ascending numbers that have the same members

iff_same : (a b : Bool) → (a ≡ true → b ≡ true) → (b ≡ true → a ≡ true) → a ≡ b
iff_same true b to from = sym (to refl)
iff_same false true to from = from refl
iff_same false false to from = refl

head_among : (x : ℕ) (xs : List ℕ) → list_any (λ other. other == x) (x ∷ xs) ≡ true
head_among x xs = or_left (x == x) (list_any (λ other. other == x) xs) (eq-eqb x x refl)

ascending_same : (xs ys : List ℕ) → IsAscending xs → IsAscending ys
    → ((q : ℕ) → list_any (λ other. other == q) xs ≡ list_any (λ other. other == q) ys) → xs ≡ ys
ascending_same [] [] a b same = refl
ascending_same [] (y ∷ ys) a b same = absurd (true≢false (sym (head_among y ys) ∙ sym (same y)))
ascending_same (x ∷ xs) [] a b same = absurd (true≢false (sym (head_among x xs) ∙ same x))
ascending_same (x ∷ xs) (y ∷ ys) a b same = elim (cases_order x y) [
  | inl here ↦ ap (λ z. z ∷ xs) here ∙ ap (λ zs. y ∷ zs) (ascending_same xs ys a.1 b.1 (λ q. rest q here))
  | inr apart ↦ elim apart [
    | inl less ↦ absurd (true≢false (sym (head_among x xs)
        ∙ (same x ∙ not_among_later x (y ∷ ys) (less, all_over x y ys (omega arith) b.0))))
    | inr more ↦ absurd (true≢false (sym (head_among y ys)
        ∙ (sym (same y) ∙ not_among_later y (x ∷ xs) (more, all_over y x xs (omega arith) a.0))))
  ]
]
  where
    rest : (q : ℕ) → x ≡ y → list_any (λ other. other == q) xs ≡ list_any (λ other. other == q) ys
    rest q here =
        let apart : x ≡ q → list_any (λ other. other == q) xs ≡ false = λ at. not_among_later q xs (all_over q x xs (omega arith) a.0) in
        let off : y ≡ q → list_any (λ other. other == q) ys ≡ false = λ at. not_among_later q ys (all_over q y ys (omega arith) b.0) in
        grind (arith, nat_tests, same q, apart, off)

-- ---- members

-- marks in order are the indexes of these places in a list, if they are the marks of the places, each with the index of its place
marks_indexed : (cylinder : ℕ) (places xs : List Place) (marks : List Mark) (mark : Place → Mark) → AreInOrder marks
    → ((place : Place) → Among places place → Among marks (mark place))
    → ((other : Mark) → Among marks other → (place : Place) × Among places place × (mark place ≡ other))
    → ((place : Place) → Among places place → (mark place).cylinder ≡ cylinder → slice_get xs (mark place).position ≡ Some place)
    → ((q : ℕ) (place : Place) → slice_get xs q ≡ Some place → Among places place → mark place
    ≡ record { cylinder = cylinder; position = q })
    → positions (marks_on cylinder marks) ≡ indexes (is_among places) 0 xs
marks_indexed cylinder places xs marks mark ordered to from here back =
    ascending_same (positions (marks_on cylinder marks)) (indexes (is_among places) 0 xs) (marks_on-ascend cylinder marks ordered)
    (indexes-ascend (is_among places) 0 xs) (λ q. let own : Mark = record { cylinder = cylinder; position = q } in
    iff_same (list_any (λ other. other == q) (positions (marks_on cylinder marks)))
    (list_any (λ other. other == q) (indexes (is_among places) 0 xs))
    (λ on. let one = any-among (same_mark own) marks (sym (among-on own marks) ∙ on) in
    let found = from own (one.1.0, one.1.1 ∙ ap Some (sym (same_marks own one.0 one.2))) in
    is_marked_at (is_among places) xs q found.0 (ap (λ (other : Mark). slice_get xs other.position) (sym found.2)
    ∙ here found.0 found.1 (ap (λ (other : Mark). other.cylinder) found.2))
    ∙ among-any (same_place found.0) places found.0 found.1 (same_place-refl found.0))
    (λ on. let found = index_of (is_among places) xs q on in
    let one = any-among (same_place found.0) places found.2 in
    let listed : Among places found.0 = (one.1.0, one.1.1 ∙ ap Some (sym (same_places found.0 one.0 one.2))) in
    among-on own marks ∙ among-any (same_mark own) marks own (subst (Among marks) (back q found.0 found.1 listed) (to found.0 listed))
    (same_mark-refl own)))

mark_by : (mark : Mark) (cylinder position : ℕ) → mark.cylinder ≡ cylinder → mark.position ≡ position
    → mark ≡ record { cylinder = cylinder; position = position }
mark_by mark cylinder position c p = ap (λ c. record { cylinder = c; position = mark.position }) c
    ∙ ap (λ p. record { cylinder = cylinder; position = p }) p

module _ (disk : Shape) (zones : HasZones disk) (defects : List Mark) (are : AreMarksOf disk disk.defects defects) where
  -- the zone of a place on the cylinder
  place_slot : (zone : Zone) (cylinder : ℕ) (place : Place) → IsZoneAt disk cylinder zone → place.track.cylinder ≡ cylinder
      → is_outside disk place ≡ false → (place.track.head < disk.heads) × (place.slot < zone.sectors)
      × ((mark_of disk place).position ≡ position_in zone disk.heads place)
  place_slot zone cylinder place at e inside =
      let on = on_disk disk place inside in
      let found = subst (λ c. zone_at disk.zones c ≡ Some zone) (sym e) at.found in
      (on.1, omega (arith, on.2, slots_at-zone disk.zones place.track.cylinder zone found), position_is disk zone place found)

  pub defects_indexed : (zone : Zone) (cylinder : ℕ) → IsZoneAt disk cylinder zone → positions (marks_on cylinder defects)
      ≡ indexes (is_among disk.defects) 0 (cylinder_slots zone disk.heads cylinder)
  defects_indexed zone cylinder at =
      marks_indexed cylinder disk.defects (cylinder_slots zone disk.heads cylinder) defects (mark_of disk) are.ordered
      (mark_among disk zones disk.defects defects are.inside are.same) (place_among disk zones disk.defects defects are.inside are.same)
      here back
    where
      here : (place : Place) → Among disk.defects place → place.track.cylinder ≡ cylinder
          → slice_get (cylinder_slots zone disk.heads cylinder) (mark_of disk place).position ≡ Some place
      here place one c =
          let slot = place_slot zone cylinder place at c (inside_of disk zones disk.defects defects are.inside are.same place one) in
          ap (slice_get (cylinder_slots zone disk.heads cylinder)) slot.2 ∙ (slot_of disk zone cylinder at place c slot.0 slot.1).1

      back : (q : ℕ) (place : Place) → slice_get (cylinder_slots zone disk.heads cylinder) q ≡ Some place → Among disk.defects place
          → mark_of disk place ≡ record { cylinder = cylinder; position = q }
      back q place at_q one =
          let some = at.ranges.some_sectors in
          let within_ = slice_get_within (cylinder_slots zone disk.heads cylinder) q place at_q in
          let inside : q < disk.heads * zone.sectors = omega (arith, within_, length-cylinder_slots zone disk.heads some cylinder) in
          ap (mark_of disk) (same_Some place (slot_at zone disk.heads cylinder q) (sym at_q
          ∙ get-cylinder_slots zone disk.heads some cylinder q inside))
          ∙ mark_of-slot_at disk zone cylinder q (record { found = at.found; ranges = at.ranges; from = at.from; upto = at.upto })

-- ---- grown defects

module _ (disk : Shape) (zones : HasZones disk) (defects grown : List Mark) (are : AreMarksOf disk disk.defects defects)
    (those : AreMarksOf disk disk.grown grown)
    (clean : filter (is_among disk.defects) disk.grown ≡ []) where
  -- no grown defect is a defect
  good_place : (place : Place) → Among disk.grown place → is_among disk.defects place ≡ false
  good_place place one = all_get (λ place. is_among disk.defects place ≡ false) disk.grown one.0 place
      (all_dropped (is_among disk.defects) disk.grown clean) one.1

  good_mark : (mark : Mark) → Among grown mark → list_any (same_mark mark) defects ≡ false
  good_mark mark one =
      let found = place_among disk zones disk.grown grown those.inside those.same mark one in
      let inside = inside_of disk zones disk.grown grown those.inside those.same found.0 found.1 in
      ap (λ mark. list_any (same_mark mark) defects) (sym found.2) ∙ (among_others disk zones disk.defects defects are.inside are.same
      found.0 inside ∙ good_place found.0 found.1)

  -- marks stay in order
  unmarked_before : (a b : Mark) → Among grown a → is_mark_before a b ≡ true
      → is_mark_before (among_unmarked defects a) (among_unmarked defects b) ≡ true
  unmarked_before a b one h =
      let numbers = positions (marks_on a.cylinder defects) in
      let ascend = marks_on-ascend a.cylinder defects are.ordered in
      let step : a.position < b.position → rank b.position numbers + a.position < rank a.position numbers + b.position =
      rank_free numbers ascend a.position b.position (among-on a defects ∙ good_mark a one) in
      let same : a.cylinder ≡ b.cylinder → rank b.position (positions (marks_on b.cylinder defects)) ≡ rank b.position numbers =
      λ e. ap (λ c. rank b.position (positions (marks_on c defects))) (sym e) in
      grind (arith, nat_tests, h, step, same, rank-below a.position numbers ascend, rank-below b.position numbers ascend)

  grown_in_order : AreInOrder (map (among_unmarked defects) grown)
  grown_in_order = pairwise-map (λ mark later. Among grown mark × (is_mark_before mark later ≡ true))
      (λ mark later. is_mark_before mark later ≡ true) (among_unmarked defects) (λ mark later h. unmarked_before mark later h.0 h.1) grown
      (each grown (λ mark one. one) those.ordered)
    where
      each : (marks : List Mark) → ((mark : Mark) → Among marks mark → Among grown mark) → AreInOrder marks
          → Pairwise (λ mark later. Among grown mark × (is_mark_before mark later ≡ true)) marks
      each [] within_ up = tt
      each (mark ∷ marks) within_ up =
          let first = all_weaker (λ later. is_mark_before mark later ≡ true)
          (λ later. Among grown mark × (is_mark_before mark later ≡ true)) (λ later h. (within_ mark (0, refl), h)) marks up.0 in
          (first, each marks (λ other one. within_ other (suc one.0, one.1)) up.1)

  pub grown_indexed : (zone : Zone) (cylinder : ℕ) → IsZoneAt disk cylinder zone
      → positions (marks_on cylinder (map (among_unmarked defects) grown))
      ≡ indexes (is_among disk.grown) 0 (by_head disk cylinder (good_track disk zone))
  grown_indexed zone cylinder at =
      marks_indexed cylinder disk.grown (by_head disk cylinder (good_track disk zone)) (map (among_unmarked defects) grown)
      (λ place. among_unmarked defects (mark_of disk place)) grown_in_order
      (λ place one. let found = mark_among disk zones disk.grown grown those.inside those.same place one in
      (found.0, map_at (among_unmarked defects) grown found.0 (mark_of disk place) found.1))
      (λ other one. let found = among-mapped (among_unmarked defects) grown other one in
      let own = place_among disk zones disk.grown grown those.inside those.same found.0 found.1 in
      (own.0, own.1, ap (among_unmarked defects) own.2 ∙ found.2)) here back
    where
      whole-is : by_head disk cylinder (good_track disk zone) ≡ good_of disk zone cylinder
      whole-is = good_cylinder-is disk zone at.ranges.some_sectors cylinder

      -- the index of a good place, by its mark
      index_is : (place : Place) → place.track.cylinder ≡ cylinder → (mark_of disk place).position ≡ position_in zone disk.heads place
          → (among_unmarked defects (mark_of disk place)).position
          ≡ position_in zone disk.heads place - rank (position_in zone disk.heads place) (defects_of disk zone cylinder)
      index_is place c e = rw (e, c, defects_indexed disk zones defects are zone cylinder at) refl

      slot : (place : Place) → Among disk.grown place → place.track.cylinder ≡ cylinder → (place.track.head < disk.heads)
          × (place.slot < zone.sectors) × ((mark_of disk place).position ≡ position_in zone disk.heads place)
      slot place one c = place_slot disk zones defects are zone cylinder place at c
          (inside_of disk zones disk.grown grown those.inside those.same place one)

      here : (place : Place) → Among disk.grown place → place.track.cylinder ≡ cylinder
          → slice_get (by_head disk cylinder (good_track disk zone)) (among_unmarked defects (mark_of disk place)).position ≡ Some place
      here place one c =
          let on = slot place one c in
          ap (λ xs. slice_get xs (among_unmarked defects (mark_of disk place)).position) whole-is
          ∙ (ap (slice_get (good_of disk zone cylinder)) (index_is place c on.2)
          ∙ goes (is_among disk.defects) (cylinder_slots zone disk.heads cylinder) (position_in zone disk.heads place) place
          (slot_of disk zone cylinder at place c on.0 on.1).1 (good_place place one))

      back : (q : ℕ) (place : Place) → slice_get (by_head disk cylinder (good_track disk zone)) q ≡ Some place → Among disk.grown place
          → among_unmarked defects (mark_of disk place) ≡ record { cylinder = cylinder; position = q }
      back q place at_q one =
          let good = good_lies disk zone cylinder at q place (ap (λ xs. slice_get xs q) (sym whole-is) ∙ at_q) in
          let c = good.lies.cylinder_is in
          mark_by (among_unmarked defects (mark_of disk place)) cylinder q c (index_is place c (slot place one c).2 ∙ sym good.index)

  pub own_marks : AreInOrder (map (among_unmarked defects) grown) × AreOwnMarks disk defects (map (among_unmarked defects) grown)
  own_marks = (grown_in_order, record { defects_at = defects_indexed disk zones defects are; grown_at = grown_indexed })
