-- Sectors on slots that follow one another, and cylinders of which no slot is bad.
use Rattle.fb_units.proofs.Comparing.{add_zero}
use Rattle.fb_geometry.proofs.Words.{Bool, Cylinder, HasNoBad, IsEven, IsGoodOf, IsStretch, IsZoneAt, KeepsOrder, Layout, LiesOn}
use Rattle.fb_geometry.proofs.Words.{PerCylinder, PerTrack, Place, Shape, Some, Track, Zone, ap, arith, cases_lt, cylinder_slots}
use Rattle.fb_geometry.proofs.Words.{data_list_at, div-add-mod', div_below, entry_of_sector, even_place, false, indexes, inl, inr}
use Rattle.fb_geometry.proofs.Words.{is_among, length, max, mod-add-mod, mod-lt, offset_in, position_in, rank, refl, same_Some}
use Rattle.fb_geometry.proofs.Words.{sectors_by, slice_get, slipped, slot_at, subst, sym, true, true≢false, turn_position, zone_at, ℕ}
use Rattle.fb_geometry.proofs.Words.{◌%◌, ◌*◌, ◌+◌, ◌-◌, ◌/◌, ◌<◌, ◌∙◌, ◌≡◌, ◌≤◌, ◌⊎◌}
use Rattle.fb_geometry.proofs.{Slips.has, Slips.stays_at, Slips.slipped_to, Slips.slipped_on, Turns.slot_on}
use Rattle.fb_geometry.proofs.{Turns.round-back, Turns.offset_below, Turns.position_in-slot_at, Faultless.slots_at-zone}
use Rattle.fb_geometry.proofs.{Faultless.offset_at_zone, Lookups.defects_of, Lookups.grown_of, Lookups.grown_ascend}
use Rattle.fb_geometry.proofs.{Lookups.defects_ascend, Lookups.split_by_track, Lookups.place_by_track, Lookups.place_by_cylinder}
use Rattle.fb_geometry.proofs.{Lookups.length_by, Lookups.placed, Lookups.is_good, Lookups.some_by_track}

-- ---- slots at positions that follow one another

module _ (zone : Zone) (heads : ℕ) (some : 0 < zone.sectors) (cylinder p : ℕ) where
  pub next_slot : (i : ℕ) → p % zone.sectors + i < zone.sectors
      → slot_at zone heads cylinder (p + i)
      ≡ record { track = (slot_at zone heads cylinder p).track; slot = ((slot_at zone heads cylinder p).slot + i) % zone.sectors }
  next_slot i inside =
      let n = zone.sectors in
      let offset = offset_in zone heads (slot_at zone heads cylinder p).track in
      let whole : p + i ≡ p / n * n + (p % n + i) = omega (arith, div-add-mod' p n) in
      let sums : offset + (p % n + i) ≡ offset + p % n + i = omega arith in
      ap (slot_at zone heads cylinder) whole ∙ (slot_on zone heads some cylinder (p / n) (p % n + i) inside
      ∙ rw (mod-add-mod (offset + p % n) n i, sums) refl)

  -- how many slots of the turn come before
  pub turned : ((slot_at zone heads cylinder p).slot + zone.sectors - offset_in zone heads (slot_at zone heads cylinder p).track)
      % zone.sectors ≡ p % zone.sectors
  turned = round-back (offset_in zone heads (slot_at zone heads cylinder p).track) (p % zone.sectors) zone.sectors
      (offset_below zone heads some (slot_at zone heads cylinder p).track) (mod-lt p some)

-- ---- sectors in their order

module _ (disk : Shape) (zone : Zone) (cylinder : ℕ) (at : IsZoneAt disk cylinder zone) (j : ℕ)
    (h : j < length (data_list_at disk cylinder)) where
  from_good : (count k : ℕ) → 0 < count → ((i : ℕ) → i < count → IsGoodOf disk zone cylinder (j + i) (k + i))
      → KeepsOrder disk zone cylinder j count
  from_good count k some each = record {
    from = k;
    inside = subst (λ k. slipped k (defects_of disk zone cylinder) < disk.heads * zone.sectors) (add_zero k) (each 0 some).inside;
    each = λ i less. (each i less).is;
  }

  -- up to the end of a track's sectors
  pub order_by_track : disk.layout ≡ PerTrack
      → KeepsOrder disk zone cylinder j (zone.sectors - zone.spares - j % (zone.sectors - zone.spares))
  order_by_track layout =
      let size = zone.sectors - zone.spares in
      let split = split_by_track disk zone cylinder at layout j h in
      let before = j / size * zone.sectors - rank (j / size * zone.sectors) (defects_of disk zone cylinder) in
      from_good (size - j % size) (before + j % size) (omega (arith, split.1))
      (λ i less. subst (IsGoodOf disk zone cylinder (j + i)) (omega arith) (place_by_track disk zone cylinder at layout (j + i) (j / size)
      (j % size + i) (omega (arith, split.2)) split.0 (omega arith)))

  -- up to the next sector that has moved
  pub order_by_cylinder : (count : ℕ) → disk.layout ≡ PerCylinder → ((q : ℕ) → j ≤ q → q < j + count
      → has (grown_of disk zone cylinder) q ≡ false)
      → j + count ≤ disk.heads * zone.sectors - zone.cylinder_spares → KeepsOrder disk zone cylinder j (max count 1)
  order_by_cylinder count layout free bound =
      let base = disk.heads * zone.sectors - zone.cylinder_spares in
      let grown = grown_of disk zone cylinder in
      let entry = entry_of_sector grown base in
      let stays = stays_at grown (grown_ascend disk zone cylinder at layout) base in
      let all = length_by disk zone cylinder at PerCylinder layout in
      from_good (max count 1) (entry j) (omega arith) (λ i less. elim (cases_lt i count) [
        | inl more ↦ subst (IsGoodOf disk zone cylinder (j + i))
            (omega (arith, stays j (free j (omega arith) (omega arith)), stays (j + i) (free (j + i) (omega arith) (omega arith))))
            (place_by_cylinder disk zone cylinder at layout (j + i) (omega (arith, all)))
        | inr first ↦ let none : i ≡ 0 = omega arith in rw (none, add_zero j, add_zero (entry j))
            (place_by_cylinder disk zone cylinder at layout j h)
      ])

-- ---- sectors in neighbouring slots

module _ (disk : Shape) (zone : Zone) (cylinder : ℕ) (at : IsZoneAt disk cylinder zone) (j count : ℕ) (place : Place)
    (order : KeepsOrder disk zone cylinder j count) (some : 0 < count)
    (here : slice_get (data_list_at disk cylinder) j ≡ Some place) where
  some_slots : 0 < zone.sectors
  some_slots = at.ranges.some_sectors

  abbrev position : ℕ
  position = slipped order.from (indexes (is_among disk.defects) 0 (cylinder_slots zone disk.heads cylinder))

  first_good : IsGoodOf disk zone cylinder j order.from
  first_good = record {
    inside = order.inside;
    is = subst (λ i. slice_get (data_list_at disk cylinder) i ≡ Some (slot_at zone disk.heads cylinder position)) (add_zero j)
        (order.each 0 some ∙ ap (λ k. Some (slot_at zone disk.heads cylinder (slipped k (defects_of disk zone cylinder))))
        (add_zero order.from));
  }

  place-is : place ≡ slot_at zone disk.heads cylinder position
  place-is = same_Some place (slot_at zone disk.heads cylinder position) (sym here ∙ first_good.is)

  position-is : position_in zone disk.heads place ≡ position
  position-is = ap (position_in zone disk.heads) place-is ∙ position_in-slot_at zone disk.heads some_slots cylinder position

  pub lies : LiesOn disk cylinder place
  lies = (is_good disk zone cylinder at j order.from place first_good here).lies

  turned-by : turn_position disk place ≡ position % zone.sectors
  turned-by =
      let found = ap (zone_at disk.zones) lies.cylinder_is ∙ at.found in
      rw (slots_at-zone disk.zones place.track.cylinder zone found, offset_at_zone disk.zones disk.heads place.track zone found)
      (ap (λ (p : Place). (p.slot + zone.sectors - offset_in zone disk.heads p.track) % zone.sectors) place-is
      ∙ turned zone disk.heads some_slots cylinder position)

  -- the slots before the next defect and the end of the turn, and no more than the sectors in order
  pub stretched_by : (pos good n : ℕ) → pos ≡ position_in zone disk.heads place → ((q : ℕ) → pos ≤ q → q < pos + good
      → has (defects_of disk zone cylinder) q ≡ false)
      → (pos + good < (place.track.head + 1) * zone.sectors → has (defects_of disk zone cylinder) (pos + good) ≡ true)
      → pos + good ≤ (place.track.head + 1) * zone.sectors → n ≤ count → n ≤ good → (n ≡ good) ⊎ (n ≡ count)
      → IsStretch disk cylinder j (record { place = place; count = n })
  stretched_by pos good n e free ends bound few within either =
      let defects = defects_of disk zone cylinder in
      let up = defects_ascend disk zone cylinder at in
      let slots = slots_at-zone disk.zones cylinder zone at.found in
      let at_position : pos ≡ position = e ∙ position-is in
      let head : (place.track.head + 1) * zone.sectors ≡ (position / zone.sectors + 1) * zone.sectors =
      ap (λ (p : Place). (p.track.head + 1) * zone.sectors) place-is in
      let split = div-add-mod' position zone.sectors in
      let positive : 0 < good = elim (cases_lt 0 good) [
        | inl more ↦ more
        | inr none ↦ absurd (true≢false (sym (ends (omega (arith, head, split, mod-lt position some_slots)))
            ∙ (ap (has defects) (let same : pos + good ≡ position = omega arith in same) ∙ (slipped_to order.from defects up).1)))
      ] in
      let end : position % zone.sectors + n ≤ zone.sectors = omega (arith, at_position, bound, head, split) in
      record {
        some = elim either [ inl all ↦ omega arith | inr all ↦ omega arith ];
        first = here;
        next = λ i less.
            order.each i (omega arith)
            ∙ ap Some (ap (slot_at zone disk.heads cylinder) (slipped_on defects up order.from i
            (λ q from below. free q (omega (arith, at_position)) (omega (arith, at_position))))
            ∙ (next_slot zone disk.heads some_slots cylinder position i (omega arith)
            ∙ (ap (λ (p : Place). record { track = p.track; slot = (p.slot + i) % zone.sectors }) (sym place-is)
            ∙ ap (λ m. record { track = place.track; slot = (place.slot + i) % m }) (sym slots))));
        one_turn = omega (arith, turned-by, slots, end);
      }

-- ---- cylinders of which no slot is bad

-- from the first track's offset on to that of another
turned_on : (a s h i n : ℕ) → ((a + 0 * s) % n + h * s + i) % n ≡ ((a + h * s) % n + i) % n
turned_on a s h i n = let same : a + 0 * s + h * s ≡ a + h * s = omega arith in
    sym (mod-add-mod ((a + 0 * s) % n + h * s) n i) ∙ ap (λ x. (x + i) % n) (mod-add-mod (a + 0 * s) n (h * s) ∙ ap (λ x. x % n) same)

module _ (disk : Shape) (zone : Zone) (cylinder : ℕ) (at : IsZoneAt disk cylinder zone) (clean : HasNoBad disk zone cylinder) where
  -- each sector is on the slot that its number says
  plain : (layout : Layout) → disk.layout ≡ layout → (j : ℕ) → j < length (data_list_at disk cylinder)
      → (j / sectors_by layout zone < disk.heads)
      × (slice_get (data_list_at disk cylinder) j ≡ Some (slot_at zone disk.heads cylinder (j / sectors_by layout zone * zone.sectors + j
      % sectors_by layout zone)))
  plain PerTrack e j h =
      let found = rw clean.defects at (placed disk zone cylinder at PerTrack e j h).is in
      ((split_by_track disk zone cylinder at e j h).0, found ∙ ap (λ k. Some (slot_at zone disk.heads cylinder k)) (omega arith))
  plain PerCylinder e j h =
      let on = placed disk zone cylinder at PerCylinder e j h in
      let inside = rw (clean.defects, clean.grown) at on.inside in
      let found = rw (clean.defects, clean.grown) at on.is in
      let same = ap (λ k. Some (slot_at zone disk.heads cylinder k)) (sym (div-add-mod' j zone.sectors)) in
      (div_below j zone.sectors disk.heads at.ranges.some_sectors inside, found ∙ same)

  -- the cylinder as it is looked up
  abbrev on : Bool → Cylinder
  on even = record {
    number = cylinder;
    even = even;
    sectors = sectors_by disk.layout zone;
    slots = zone.sectors;
    offset = offset_in zone disk.heads (record { cylinder = cylinder; head = 0 });
    skew = zone.track_skew;
  }

  stands : (even : Bool) (j : ℕ) → j % sectors_by disk.layout zone < zone.sectors
      → slot_at zone disk.heads cylinder (j / sectors_by disk.layout zone * zone.sectors + j % sectors_by disk.layout
      zone) ≡ even_place (on even) j
  stands even j h =
      let n = sectors_by disk.layout zone in
      let track : Track = record { cylinder = cylinder; head = j / n } in
      slot_on zone disk.heads at.ranges.some_sectors cylinder (j / n) (j % n) h
      ∙ ap (λ slot. record { track = track; slot = slot })
      (sym (turned_on ((cylinder - zone.first) * (zone.cylinder_skew + (disk.heads - 1) * zone.track_skew)) zone.track_skew
      (j / n) (j % n) zone.sectors))

  size_by : (layout : Layout) → disk.layout ≡ layout → (0 < sectors_by layout zone) × (sectors_by layout zone ≤ zone.sectors)
  size_by PerTrack e = (some_by_track disk zone cylinder at e, omega arith)
  size_by PerCylinder e = (at.ranges.some_sectors, omega arith)

  -- each sector is where the cylinder as it is looked up says
  pub is_even : (even : Bool) (sectors offset : ℕ) → sectors ≡ sectors_by disk.layout zone
      → offset ≡ offset_in zone disk.heads (record { cylinder = cylinder; head = 0 })
      → disk.heads ≤ 64 → IsEven disk
      (record { number = cylinder; even = even; sectors = sectors; slots = zone.sectors; offset = offset; skew = zone.track_skew })
  is_even even sectors offset s o few =
      let n = sectors_by disk.layout zone in
      let size = size_by disk.layout refl in
      rw (s, o) (record {
        some_sectors = size.0;
        some_slots = at.ranges.some_sectors;
        few_slots = at.ranges.few_sectors;
        few_sectors = size.1;
        offset = offset_below zone disk.heads at.ranges.some_sectors (record { cylinder = cylinder; head = 0 });
        skew = at.ranges.track_skew;
        heads = λ j h. let on_track = (plain disk.layout refl j h).0 in omega (arith, on_track, few);
        each = λ j h. let inside : j % n < n = mod-lt j size.0 in (plain disk.layout refl j h).1
            ∙ ap Some (stands even j (omega (arith, inside, size.1)));
      })
