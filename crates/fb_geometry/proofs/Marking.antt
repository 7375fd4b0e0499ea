-- Marks: what binary searches find among marks in order, and the marks of places.
use Rattle.fb_units.proofs.Counts.{length-filter-map}
use Rattle.fb_units.proofs.Lists.{all_at, map_at}
use Rattle.fb_units.proofs.Searches.{at_point, find-none, point-is}
use Rattle.fb_geometry.proofs.Words.{AreInOrder, HasZones, IsAscending, IsNonDecreasingBy, IsNonDecreasingBy-drop, IsPartitionPoint}
use Rattle.fb_geometry.proofs.Words.{IsZoneOf, List, Mark, None, Place, Shape, Some, Zone, [], and_parts, ap, arith, cases_lt}
use Rattle.fb_geometry.proofs.Words.{cylinders_of, drop, eqb-true, false, false_from_ne_true, filter, find, get_or, get_or-map, inl, inr}
use Rattle.fb_geometry.proofs.Words.{is_lt, is_mark_before, is_outside, length, length-map, list_any, ltb-true, mark_of, marks_on, nat_cmp}
use Rattle.fb_geometry.proofs.Words.{nat_le, nat_lt, nat_tests, not, not-false, ordering_then, position_in, positions, rank, refl}
use Rattle.fb_geometry.proofs.Words.{same_mark, slice_get, slice_get-get_or, slipped, slot_at, slots_at, subst, sym, take, true, zone_at}
use Rattle.fb_geometry.proofs.Words.{ℕ, ◌+◌, ◌-◌, ◌<◌, ◌==◌, ◌∙◌, ◌∷◌, ◌≡◌, ◌≤◌}
use Rattle.fb_geometry.proofs.{Slips.slipped_only, Slips.pairwise-filter, Slips.pairwise-map, Slips.rises, Slips.rank-at}
use Rattle.fb_geometry.proofs.{Slips.rank_marked, Slips.rank-step, Slips.rank-below, Slips.has, Slips.rank-le_length, Slips.free_behind}
use Rattle.fb_geometry.proofs.{Slips.next_marked, Turns.position_in-slot_at, Turns.slot_at-position_in, Faultless.slots_at-zone}
use Rattle.fb_geometry.proofs.{Faultless.offset_at_zone, Faultless.found_zone, Faultless.some_zone}

pub position_at : (marks : List Mark) (i : ℕ) (d : Mark) → i < length marks → get_or (positions marks) i 0 ≡ (get_or marks i d).position
position_at marks i d h = get_or-map (λ mark. mark.position) marks i d 0 h

pub cylinders-rise : (marks : List Mark) → AreInOrder marks → IsNonDecreasingBy (λ mark. mark.cylinder) marks
cylinders-rise = rises (λ mark later. is_mark_before mark later ≡ true) (λ mark. mark.cylinder) (λ a b h. grind (arith, nat_tests))

pub positions-rise : (marks : List Mark) → IsAscending (positions marks) → IsNonDecreasingBy (λ mark. mark.position) marks
positions-rise marks up i j d le h =
    let inside : j < length (positions marks) = omega (arith, length-map marks (λ mark. mark.position)) in
    let up_to = rises (λ a b. a < b) (λ a. a) (λ a b less. omega arith) (positions marks) up i j 0 le inside in
    omega (arith, up_to, position_at marks i d (omega arith), position_at marks j d h)

-- ---- the marks of one cylinder

pub marks_on-ascend : (cylinder : ℕ) (marks : List Mark) → AreInOrder marks → IsAscending (positions (marks_on cylinder marks))
marks_on-ascend cylinder marks up =
    pairwise-map (λ mark later. mark.position < later.position) (λ a b. a < b) (λ mark. mark.position) (λ mark later less. less)
    (marks_on cylinder marks) (pairwise-filter (λ mark later. is_mark_before mark later ≡ true)
    (λ mark later. mark.position < later.position) (λ mark. mark.cylinder == cylinder) (λ mark later here there h.
    grind (arith, nat_tests)) marks up)

-- ---- what searches find

pub rank-is : (number : ℕ) (marks : List Mark) (i : ℕ) → i ≤ length marks
    → IsPartitionPoint (λ mark. nat_lt mark.position number ≡ true) (λ mark. nat_lt mark.position number ≡ false) marks i
    → i ≡ rank number (positions marks)
rank-is number marks i h at = sym (length-filter-map (λ passed. nat_lt passed number) (λ mark. mark.position) marks
    ∙ point-is (λ mark. nat_lt mark.position number) marks i h at)

-- the part of a cylinder, from the point before it to the point behind
pub part-of : (cylinder : ℕ) (marks rest : List Mark) (from n : ℕ) → rest ≡ drop from marks
    → IsPartitionPoint (λ mark. nat_lt mark.cylinder cylinder ≡ true) (λ mark. nat_lt mark.cylinder cylinder ≡ false) marks from
    → IsPartitionPoint (λ mark. nat_le mark.cylinder cylinder ≡ true) (λ mark. nat_le mark.cylinder cylinder ≡ false) rest n
    → take n rest ≡ marks_on cylinder marks
part-of cylinder marks rest from n e low high = (at_point (λ mark. nat_le mark.cylinder cylinder) rest n high).0
    ∙ (ap (filter (λ mark. nat_le mark.cylinder cylinder)) (e ∙ (at_point (λ mark. nat_lt mark.cylinder cylinder) marks from low).1)
    ∙ both marks)
  where
    both : (marks : List Mark)
        → filter (λ mark. nat_le mark.cylinder cylinder) (filter (λ mark. not (nat_lt mark.cylinder cylinder)) marks)
        ≡ marks_on cylinder marks
    both [] = refl
    both (mark ∷ marks) = grind (arith, nat_tests, both marks)

pub rest-rises : (marks rest : List Mark) (from : ℕ) → AreInOrder marks → rest ≡ drop from marks
    → IsNonDecreasingBy (λ mark. mark.cylinder) rest
rest-rises marks rest from up e = subst (λ rest. IsNonDecreasingBy (λ mark. mark.cylinder) rest) (sym e)
    (IsNonDecreasingBy-drop (λ mark. mark.cylinder) from marks (cylinders-rise marks up))

-- ---- slipping

-- where a number comes to stand, by the passed one before and the one behind
pub slipped_at : (number : ℕ) (marks : List Mark) (r : ℕ) → IsAscending (positions marks) → r ≤ length marks
    → ((i : ℕ) → i + 1 ≡ r → get_or (positions marks) i 0 ≤ number + i)
    → (r < length marks → number + r < get_or (positions marks) r 0) → slipped number (positions marks) ≡ number + r
slipped_at number marks r up h low high =
    let numbers = positions marks in
    let many : length numbers ≡ length marks = length-map marks (λ mark. mark.position) in
    let at = λ (i : ℕ) (l : i < length numbers). rank-at i numbers (get_or numbers i 0) up (slice_get-get_or numbers i 0 l) in
    let from : r ≤ rank (number + r) numbers = elim (cases_lt 0 r) [
      | inl some ↦ let one = at (r - 1) (omega arith) in
          let before : get_or numbers (r - 1) 0 < number + r = omega (arith, low (r - 1) (omega arith)) in
          omega (arith, one.0, rank_marked numbers up (get_or numbers (r - 1) 0) (number + r) one.1 before)
      | inr none ↦ omega arith
    ] in
    elim (cases_lt r (length marks)) [
      | inl more ↦
          let one = at r (omega arith) in
          let behind = high more in
          let upto = (rank-step (number + r) (get_or numbers r 0) numbers up (omega arith)).0 in
          slipped_only numbers up number (number + r) (omega (arith, from, one.0, upto)) (false_from_ne_true (has numbers (number + r))
          (λ among. omega (arith, from, one.0, rank_marked numbers up (number + r) (get_or numbers r 0) among behind)))
      | inr all ↦ slipped_only numbers up number (number + r) (omega (arith, from, rank-le_length (number + r) numbers))
          (free_behind numbers up (number + r) (number + r) (omega (arith, from)) (omega arith))
    ]

-- the position at an index
pub position_get : (marks : List Mark) (i : ℕ) (d : Mark) → i < length marks → slice_get (positions marks) i
    ≡ Some (get_or marks i d).position
position_get marks i d h = map_at (λ mark. mark.position) marks i (get_or marks i d) (slice_get-get_or marks i d h)

-- the unmarked entries behind the sectors are no more than the marked ones among them
module _ (marks : List Mark) (up : IsAscending (positions marks)) (sectors entry : ℕ) where
  pub fewer_unmarked : sectors ≤ entry → sectors - rank sectors (positions marks) ≤ entry - rank entry (positions marks)
  fewer_unmarked h = omega (arith, (rank-step sectors entry (positions marks) up h).1, rank-below sectors (positions marks) up)

  pub few_spares : sectors ≤ entry → entry - rank entry (positions marks) < sectors
      → entry - rank entry (positions marks) - (sectors - rank sectors (positions marks)) < length marks
  few_spares h few = let many = length-map marks (λ mark. mark.position) in
      omega (arith, many, fewer_unmarked h, rank-le_length sectors (positions marks), rank-below sectors (positions marks) up)

-- the next mark, by how many come before a position
module _ (marks : List Mark) (up : IsAscending (positions marks)) (start next : ℕ) (e : next ≡ rank start (positions marks)) where
  many : length (positions marks) ≡ length marks
  many = length-map marks (λ mark. mark.position)

  pub next_upto : next ≤ length marks
  next_upto = omega (arith, many, rank-le_length start (positions marks))

  pub none_next : next ≡ length marks → (q : ℕ) → start ≤ q → has (positions marks) q ≡ false
  none_next none q from = free_behind (positions marks) up start q (omega (arith, many)) from

  pub next_mark : (d : Mark) → next < length marks → (start ≤ (get_or marks next d).position) × ((q : ℕ) → start ≤ q
      → q < (get_or marks next d).position → has (positions marks) q ≡ false)
      × (has (positions marks) start ≡ ((get_or marks next d).position == start))
      × (has (positions marks) (get_or marks next d).position ≡ true)
  next_mark d inside = next_marked (positions marks) up start (get_or marks next d).position (ap (slice_get (positions marks)) (sym e)
      ∙ position_get marks next d inside)

-- the position of a mark is counted in its zone
pub position_is : (disk : Shape) (zone : Zone) (place : Place) → zone_at disk.zones place.track.cylinder ≡ Some zone
    → (mark_of disk place).position ≡ position_in zone disk.heads place
position_is disk zone place at =
    rw (slots_at-zone disk.zones place.track.cylinder zone at, offset_at_zone disk.zones disk.heads place.track zone at) refl

pub inside_at : (disk : Shape) (places : List Place) (i : ℕ) (d : Place) → find (is_outside disk) places ≡ None → i < length places
    → is_outside disk (get_or places i d) ≡ false
inside_at disk places i d h l = all_at (λ place. is_outside disk place ≡ false) places i d (find-none (is_outside disk) places h) l

-- the order by which marks are sorted
pub sorted_by : (a b : Mark) → is_lt (ordering_then (nat_cmp a.cylinder b.cylinder) (nat_cmp a.position b.position)) ≡ is_mark_before a b
sorted_by a b = grind (arith, nat_tests)

-- ---- the place of a mark

-- what inside says
pub on_disk : (disk : Shape) (place : Place) → is_outside disk place ≡ false → (place.track.cylinder < cylinders_of disk.zones)
    × (place.track.head < disk.heads) × (place.slot < slots_at disk.zones place.track.cylinder)
on_disk disk place h =
    let all = and_parts _ _ (not-false _ h) in
    let track = and_parts _ _ all.0 in
    (ltb-true _ _ track.0, ltb-true _ _ track.1, ltb-true _ _ all.1)

pub mark_of-slot_at : (disk : Shape) (zone : Zone) (cylinder position : ℕ) → IsZoneOf disk cylinder zone
    → mark_of disk (slot_at zone disk.heads cylinder position) ≡ record { cylinder = cylinder; position = position }
mark_of-slot_at disk zone cylinder position at =
    ap (λ position. record { cylinder = cylinder; position = position })
    (position_is disk zone (slot_at zone disk.heads cylinder position) at.found ∙ position_in-slot_at zone
    disk.heads at.ranges.some_sectors cylinder position)

-- a mark has one place
pub mark_of-same : (disk : Shape) (a b : Place) → HasZones disk → is_outside disk a ≡ false → is_outside disk b ≡ false
    → mark_of disk a ≡ mark_of disk b → a ≡ b
mark_of-same disk a b zones h k e =
    let on_a = on_disk disk a h in
    let on_b = on_disk disk b k in
    let one = some_zone 0 0 a.track.cylinder disk.zones zones.contiguous (omega arith) on_a.0 in
    let zone = one.0 in
    let some = (found_zone disk zones a.track.cylinder zone one.1).ranges.some_sectors in
    let cylinder : a.track.cylinder ≡ b.track.cylinder = ap (λ mark. mark.cylinder) e in
    let at_b : zone_at disk.zones b.track.cylinder ≡ Some zone = subst (λ c. zone_at disk.zones c ≡ Some zone) cylinder one.1 in
    let position : position_in zone disk.heads a ≡ position_in zone disk.heads b =
    sym (position_is disk zone a one.1) ∙ (ap (λ mark. mark.position) e ∙ position_is disk zone b at_b) in
    sym (slot_at-position_in zone disk.heads some a (omega (arith, on_a.2, slots_at-zone disk.zones a.track.cylinder zone one.1)))
    ∙ (ap (λ c. slot_at zone disk.heads c (position_in zone disk.heads a)) cylinder
    ∙ (ap (slot_at zone disk.heads b.track.cylinder) position
    ∙ slot_at-position_in zone disk.heads some b (omega (arith, on_b.2, slots_at-zone disk.zones b.track.cylinder zone at_b))))

-- ---- the others of a clash

pub same_marks : (a b : Mark) → same_mark a b ≡ true → a ≡ b
same_marks a b h = let parts = and_parts (a.cylinder == b.cylinder) (a.position == b.position) h in
    rw (eqb-true a.cylinder b.cylinder parts.0, eqb-true a.position b.position parts.1) refl

pub same_mark-refl : (a : Mark) → same_mark a a ≡ true
same_mark-refl a = grind (arith, nat_tests)

pub among-on : (mark : Mark) (others : List Mark) → list_any (λ other. other == mark.position) (positions (marks_on mark.cylinder others))
    ≡ list_any (same_mark mark) others
among-on mark [] = refl
among-on mark (other ∷ others) = grind (arith, nat_tests, among-on mark others)
