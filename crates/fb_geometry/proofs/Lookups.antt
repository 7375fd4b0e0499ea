-- Where the sectors of a cylinder are.
use Rattle.fb_units.proofs.Comparing.{zero_add}
use Rattle.fb_units.proofs.Counts.{at_most_each, fewer, kept_and_dropped}
use Rattle.fb_units.proofs.Each.{all_map_any}
use Rattle.fb_units.proofs.Lists.{all_filter, all_get, element_at, get_left, get_right}
use Rattle.fb_units.proofs.Parts.{get_part, get_range, get_take, range-append}
use Rattle.fb_geometry.proofs.Words.{Bool, HoldsNone, HoldsSector, IfNone, IfSome, IsAscending, IsGoodOf, IsZone, IsZoneAt, Layout, LiesOn}
use Rattle.fb_geometry.proofs.Words.{List, MatchOption, None, Option, PerCylinder, PerTrack, Place, Shape, Some, Track, Zone, [], ap}
use Rattle.fb_geometry.proofs.Words.{arith, by_head, cases_Bool, cond, cylinder_size_by, cylinder_slots, data_list, data_list_at}
use Rattle.fb_geometry.proofs.Words.{data_list_by, div-add-mod', div_below, drop, entry_of_sector, false, filter, filter-append}
use Rattle.fb_geometry.proofs.Words.{good_track, has_no_data, indexes, inl, inr, is_among, length, length-append, length-take}
use Rattle.fb_geometry.proofs.Words.{length-take-le, map, map-append, mod-lt, mul-le, nat_tests, none-some, not, offset_in, position_in}
use Rattle.fb_geometry.proofs.Words.{range_with_len, rank, refl, replaced, same_Some, same_place, slice_get, slice_get_within, slipped}
use Rattle.fb_geometry.proofs.Words.{slot_at, spare_fault, stand_in, subst, suc, sym, take, take-append-drop, take-map-range_with_len}
use Rattle.fb_geometry.proofs.Words.{take-take, true, true≢false, turn, zero, ℕ, ◌%◌, ◌*◌, ◌++◌, ◌+◌, ◌-◌, ◌/◌, ◌<◌, ◌==◌, ◌∙◌, ◌∷◌, ◌≡◌}
use Rattle.fb_geometry.proofs.Words.{◌≤◌}
use Rattle.fb_geometry.proofs.{Slips.has, Slips.indexes-ascend, Slips.slipped_to, Slips.is_marked_at, Slips.length_front, Slips.goes}
use Rattle.fb_geometry.proofs.{Slips.kth, Slips.rank_marked, Slips.rank-below, Slips.rank-step, Slips.length-kept, Slips.entry_holds}
use Rattle.fb_geometry.proofs.{Slips.one_entry, Slips.held, Turns.good_track-is, Turns.good_cylinder-is, Turns.length-cylinder_slots}
use Rattle.fb_geometry.proofs.{Turns.get-cylinder_slots, Turns.position_in-slot_at, Turns.slot_at-position_in, Turns.position_below}
use Rattle.fb_geometry.proofs.{Faultless.slots_at-zone, Faultless.list_among-zone, Laws.length-track, Laws.length-good}
use Rattle.fb_geometry.proofs.{Laws.few_flaws, Laws.length_data_list, Laws.once_on_cylinder}

-- the bad slots of a cylinder by their positions, its good slots, and the grown defects by their indexes among these
abbrev pub defects_of : Shape → Zone → ℕ → List ℕ
defects_of disk zone cylinder = indexes (is_among disk.defects) 0 (cylinder_slots zone disk.heads cylinder)

abbrev pub good_of : Shape → Zone → ℕ → List Place
good_of disk zone cylinder = filter (λ place. not (is_among disk.defects place)) (cylinder_slots zone disk.heads cylinder)

abbrev pub grown_of : Shape → Zone → ℕ → List ℕ
grown_of disk zone cylinder = indexes (is_among disk.grown) 0 (by_head disk cylinder (good_track disk zone))

-- no cylinder has more slots than there are numbers
pub few_slots : (disk : Shape) (zone : Zone) → disk.heads ≤ 64 → IsZone zone → disk.heads * zone.sectors ≤ 640000
few_slots disk zone few ranges = mul-le disk.heads zone.sectors 64 10000 few ranges.few_sectors

-- the index among the good slots that a sector has
abbrev pub good_number : Layout → Shape → Zone → ℕ → ℕ → ℕ
good_number PerTrack disk zone cylinder j =
    let first = j / (zone.sectors - zone.spares) * zone.sectors in
    first - rank first (defects_of disk zone cylinder) + j % (zone.sectors - zone.spares)
good_number PerCylinder disk zone cylinder j = entry_of_sector (grown_of disk zone cylinder)
    (disk.heads * zone.sectors - zone.cylinder_spares) j

pub slots_upto : (head n : ℕ) → head ≤ 64 → n ≤ 10000 → head * n ≤ 640000
slots_upto head n few short = mul-le head n 64 10000 few short

-- the place is that of the k-th good slot of the cylinder
pub record IsGood (disk : Shape) (zone : Zone) (cylinder k : ℕ) (place : Place) : Type 0 where
  pub clean : is_among disk.defects place ≡ false
  pub lies : LiesOn disk cylinder place
  pub index : k ≡ position_in zone disk.heads place - rank (position_in zone disk.heads place) (defects_of disk zone cylinder)
  pub listed : slice_get (good_of disk zone cylinder) k ≡ Some place

-- ---- spares stand in

module _ (disk : Shape) where
  -- one that stays
  replaced-stays : (places spares : List Place) (j : ℕ) (place : Place) → slice_get places j ≡ Some place → is_among disk.grown place
      ≡ false → slice_get (replaced disk places spares) j ≡ Some place
  replaced-stays [] spares j place at stays = at
  replaced-stays (other ∷ places) spares zero place at stays = let same = same_Some other place at in
      ap Some (ap (λ b. (stand_in b other spares).0) (ap (is_among disk.grown) same ∙ stays) ∙ same)
  replaced-stays (other ∷ places) spares (suc j) place at stays = replaced-stays places (stand_in (is_among disk.grown other) other
      spares).1 j place at stays

  -- the i-th that is grown has the i-th spare
  replaced-moves : (places spares : List Place) (j : ℕ) (place spare : Place) → slice_get places j ≡ Some place
      → is_among disk.grown place ≡ true
      → slice_get spares (length (filter (is_among disk.grown) (take j places))) ≡ Some spare
      → slice_get (replaced disk places spares) j ≡ Some spare
  replaced-moves [] spares j place spare at moves stand = absurd (none-some place at)
  replaced-moves (other ∷ places) [] j place spare at moves stand = absurd (none-some spare stand)
  replaced-moves (other ∷ places) (first ∷ spares) zero place spare at moves stand =
      ap (λ b. Some (stand_in b other (first ∷ spares)).0) (ap (is_among disk.grown) (same_Some other place at) ∙ moves) ∙ stand
  replaced-moves (other ∷ places) (first ∷ spares) (suc j) place spare at moves stand =
      grind (arith, replaced-moves places spares j place spare at moves, replaced-moves places (first ∷ spares) j place spare at moves)

module _ (disk : Shape) (zone : Zone) (cylinder : ℕ) (at : IsZoneAt disk cylinder zone) where
  abbrev pub defects : List ℕ
  defects = defects_of disk zone cylinder

  abbrev pub good : List Place
  good = good_of disk zone cylinder

  abbrev pub grown : List ℕ
  grown = grown_of disk zone cylinder

  abbrev pub sectors : List Place
  sectors = data_list_at disk cylinder

  abbrev pub slots : List Place
  slots = cylinder_slots zone disk.heads cylinder

  abbrev pub slot : ℕ → Place
  slot = slot_at zone disk.heads cylinder

  abbrev pub position : Place → ℕ
  position = position_in zone disk.heads

  abbrev pub on_track : ℕ → List Place
  on_track head = good_track disk zone (record { cylinder = cylinder; head = head })

  -- how many sectors a track has, or the cylinder
  abbrev pub size : ℕ
  size = zone.sectors - zone.spares

  abbrev pub base : ℕ
  base = disk.heads * zone.sectors - zone.cylinder_spares

  some : 0 < zone.sectors
  some = at.ranges.some_sectors

  -- ---- good slots

  pub defects_ascend : IsAscending defects
  defects_ascend = indexes-ascend (is_among disk.defects) 0 slots

  -- the slot at the position of a place
  pub slot_of : (place : Place) → place.track.cylinder ≡ cylinder → place.track.head < disk.heads → place.slot < zone.sectors
      → (slot (position place) ≡ place) × (slice_get slots (position place) ≡ Some place)
  slot_of place c h l =
      let same = ap (λ c. slot_at zone disk.heads c (position place)) (sym c) ∙ slot_at-position_in zone disk.heads some place l in
      (same, get-cylinder_slots zone disk.heads some cylinder (position place) (position_below zone disk.heads some place h) ∙ ap Some same)

  -- what the slot that a number slips to is
  good_facts : (k : ℕ) → slipped k defects < disk.heads * zone.sectors → IsGood disk zone cylinder k (slot (slipped k defects))
  good_facts k inside =
      let q = slipped k defects in
      let to = slipped_to k defects defects_ascend in
      let place = slot q in
      let here = get-cylinder_slots zone disk.heads some cylinder q inside in
      let clean : is_among disk.defects place ≡ false = sym (is_marked_at (is_among disk.defects) slots q place here) ∙ to.1 in
      let index : k ≡ q - rank q defects = omega (arith, to.0) in
      record {
        clean = clean;
        lies = record {
          cylinder_is = refl;
          head = div_below q zone.sectors disk.heads some inside;
          slot = let turned = mod-lt (offset_in zone disk.heads place.track + q % zone.sectors) some in
              omega (arith, turned, slots_at-zone disk.zones cylinder zone at.found);
        };
        index = index ∙ ap (λ q. q - rank q defects) (sym (position_in-slot_at zone disk.heads some cylinder q));
        listed = ap (slice_get good) index ∙ goes (is_among disk.defects) slots q place here clean;
      }

  -- what a good slot is
  pub good_lies : (k : ℕ) (place : Place) → slice_get good k ≡ Some place → IsGood disk zone cylinder k place
  good_lies k place found =
      let one = kth (is_among disk.defects) slots k (slice_get_within good k place found) in
      let facts = good_facts k (omega (arith, one.0, length-cylinder_slots zone disk.heads some cylinder)) in
      subst (IsGood disk zone cylinder k) (same_Some (slot (slipped k defects)) place (sym facts.listed ∙ found)) facts

  -- a sector that is on the k-th good slot
  pub is_good : (j k : ℕ) (place : Place) → IsGoodOf disk zone cylinder j k → slice_get sectors j ≡ Some place
      → IsGood disk zone cylinder k place
  is_good j k place on found = subst (IsGood disk zone cylinder k) (same_Some (slot (slipped k defects)) place (sym on.is
      ∙ found)) (good_facts k on.inside)

  pub on_good : (j k : ℕ) (place : Place) → slice_get sectors j ≡ Some place → slice_get good k ≡ Some place
      → IsGoodOf disk zone cylinder j k
  on_good j k place found listed =
      let one = kth (is_among disk.defects) slots k (slice_get_within good k place listed) in
      let below : slipped k defects < disk.heads * zone.sectors =
      omega (arith, one.0, length-cylinder_slots zone disk.heads some cylinder) in
      record { inside = below; is = found ∙ (sym listed ∙ (good_facts k below).listed) }

  -- a good slot has the sector that is on it
  pub holds : (j k : ℕ) (place : Place) → IsGoodOf disk zone cylinder j k → place.track.cylinder ≡ cylinder → place.track.head < disk.heads
      → place.slot < zone.sectors → is_among disk.defects place ≡ false
      → k ≡ position place - rank (position place) defects → slice_get sectors j ≡ Some place
  holds j k place on c h l stays index =
      on.is ∙ (sym (good_facts k on.inside).listed ∙ (ap (slice_get good) index ∙ goes (is_among disk.defects) slots (position place) place
      (slot_of place c h l).1 stays))

  -- the slots of a track stand together
  track_in_good : (head i : ℕ) → head < disk.heads → i < length (on_track head)
      → slice_get good (head * zone.sectors - rank (head * zone.sectors) defects + i) ≡ slice_get (on_track head) i
  track_in_good head i h l =
      let n = zone.sectors in
      let first = head * n in
      let is_good : Place → Bool = λ place. not (is_among disk.defects place) in
      let fits : first + n ≤ disk.heads * n = omega (arith, mul-le (head + 1) n disk.heads n (omega arith) (omega arith)) in
      let front = filter is_good (map slot (range_with_len 0 first)) in
      let rest = filter is_good (map slot (range_with_len (first + n) (disk.heads * n - first - n))) in
      let own = good_track-is disk zone some (record { cylinder = cylinder; head = head }) in
      let whole : disk.heads * n ≡ first + (n + (disk.heads * n - first - n)) = omega arith in
      let cut : good ≡ front ++ (on_track head ++ rest) =
      ap (λ m. filter is_good (map slot (range_with_len 0 m))) whole
      ∙ rw (own, range-append 0 first (n + (disk.heads * n - first - n)), zero_add first)
      (simp (range-append, map-append, filter-append)) in
      let taken = ap (λ xs. length (filter is_good xs)) (take-map-range_with_len slot 0 (disk.heads * n) first (omega arith)) in
      let inside : first ≤ length slots = omega (arith, length-cylinder_slots zone disk.heads some cylinder) in
      let kept = length_front (is_among disk.defects) slots first inside in
      let before : length front ≡ first - rank first defects = omega (arith, taken, kept) in
      ap (λ xs. slice_get xs (first - rank first defects + i)) cut
      ∙ (get_right front (on_track head ++ rest) i (first - rank first defects + i) (omega (arith, before))
      ∙ get_left (on_track head) rest i l)

  -- ---- the list of the disk

  list_by : (layout : Layout) → disk.layout ≡ layout → sectors ≡ data_list_by layout disk zone cylinder
  list_by layout e = list_among-zone disk disk.zones cylinder zone at.found ∙ ap (λ l. data_list_by l disk zone cylinder) e

  spares_by : (layout : Layout) → disk.layout ≡ layout → spare_fault layout disk ≡ None
  spares_by layout e = subst (λ layout. spare_fault layout disk ≡ None) e at.enough_spares

  pub length_by : (layout : Layout) → disk.layout ≡ layout → length sectors ≡ cylinder_size_by layout disk zone
  length_by layout e = ap length (list_by layout e) ∙ length_data_list disk zone cylinder at layout (spares_by layout e)

  -- ---- spares at the end of each track

  module _ (layout : disk.layout ≡ PerTrack) where
    pub some_by_track : 0 < size
    some_by_track = let kept : has_no_data PerTrack disk zone ≡ false = subst (λ layout. has_no_data layout disk zone ≡ false)
        layout at.holds_data in grind (arith, nat_tests)

    -- the i-th sector of a track is its i-th good slot
    entry : (head i : ℕ) → head < disk.heads → i < size → slice_get sectors (head * size + i) ≡ slice_get (on_track head) i
    entry head i h l =
        let few = spares_by PerTrack layout in
        ap (λ xs. slice_get xs (head * size + i)) (list_by PerTrack layout)
        ∙ (get_part (λ head. take size (on_track head)) size (λ head. length-track disk zone cylinder at head few)
        (range_with_len 0 disk.heads) head i (head * size + i) head (get_range 0 disk.heads head h ∙ ap Some (zero_add head)) l refl
        ∙ get_take size (on_track head) i l)

    pub place_by_track : (j head i : ℕ) → head * size + i ≡ j → head < disk.heads → i < size
        → IsGoodOf disk zone cylinder j (head * zone.sectors - rank (head * zone.sectors) defects + i)
    place_by_track j head i e h l =
        let slots = on_track head in
        let inside : i < length slots =
        omega (arith, length-track disk zone cylinder at head (spares_by PerTrack layout), length-take size slots) in
        let one = element_at slots i inside in
        on_good j (head * zone.sectors - rank (head * zone.sectors) defects + i) one.0
        (ap (slice_get sectors) (sym e) ∙ (entry head i h l ∙ one.1)) (track_in_good head i h inside ∙ one.1)

    -- the track of a sector, and its index there
    pub split_by_track : (j : ℕ) → j < length sectors → (j / size < disk.heads) × (j % size < size) × (j / size * size + j % size ≡ j)
        × (j / size * zone.sectors + zone.sectors ≤ disk.heads * zone.sectors)
    split_by_track j h =
        let on : j / size < disk.heads = div_below j size disk.heads some_by_track (omega (arith, length_by PerTrack layout)) in
        let upto = mul-le (j / size + 1) zone.sectors disk.heads zone.sectors (omega arith) (omega arith) in
        (on, mod-lt j some_by_track, div-add-mod' j size, omega (arith, upto))

    pub head_by_track : (j : ℕ) (place : Place) → slice_get sectors j ≡ Some place → place.track.head ≡ j / size
    head_by_track j place found =
        let split = split_by_track j (slice_get_within sectors j place found) in
        let track : Track = record { cylinder = cylinder; head = j / size } in
        let slots = map (λ slot. record { track = track; slot = slot }) (turn zone.sectors (offset_in zone disk.heads track)) in
        let on = all_filter (λ place. place.track ≡ track) (λ place. not (is_among disk.defects place)) slots
        (all_map_any (λ place. place.track ≡ track) (λ slot. record { track = track; slot = slot }) (λ slot. refl)
        (turn zone.sectors (offset_in zone disk.heads track))) in
        ap (λ track. track.head) (all_get (λ place. place.track ≡ track) (good_track disk zone track) (j % size) place on
        (sym (entry (j / size) (j % size) split.0 split.1) ∙ (ap (slice_get sectors) split.2 ∙ found)))

  -- ---- spares at the end of the cylinder

  module _ (layout : disk.layout ≡ PerCylinder) where
    abbrev whole : List Place
    whole = by_head disk cylinder (good_track disk zone)

    abbrev clean : Place → Bool
    clean place = not (is_among disk.grown place)

    abbrev spares : List Place
    spares = filter (λ place. not (is_among disk.grown place)) (drop base (by_head disk cylinder (good_track disk zone)))

    whole-is : whole ≡ good
    whole-is = good_cylinder-is disk zone some cylinder

    pub grown_ascend : IsAscending grown
    grown_ascend = indexes-ascend (is_among disk.grown) 0 whole

    base_inside : base ≤ length whole
    base_inside = omega (arith, length-good disk zone cylinder at, few_flaws disk zone cylinder at (spares_by PerCylinder layout))

    few_grown : length grown ≤ length (filter (λ place. place.track.cylinder == cylinder) disk.grown)
    few_grown =
        let each : (d : Place) → length (filter (λ place. same_place place d) whole) ≤ cond (d.track.cylinder == cylinder) 1 0 = λ d.
        let same = ap (λ xs. length (filter (λ place. same_place place d) xs)) whole-is in
        let kept = fewer (λ place. same_place place d) (λ place. not (is_among disk.defects place)) slots in
        omega (arith, same, kept, once_on_cylinder zone some disk.heads cylinder d) in
        let few = at_most_each same_place (λ place. place.track.cylinder == cylinder) whole disk.grown each in
        omega (arith, few, length-kept (is_among disk.grown) 0 whole, kept_and_dropped (is_among disk.grown) whole)

    -- what is left of the base list, before the spares
    clean_parts : (filter clean whole ≡ filter clean (take base whole) ++ spares)
        × (length (filter clean (take base whole)) + rank base grown ≡ base)
    clean_parts = (
      ap (filter clean) (sym (take-append-drop base whole)) ∙ filter-append clean (take base whole) (drop base whole),
      length_front (is_among disk.grown) whole base base_inside,
    )

    -- there are as many spares as there are grown entries
    enough : rank base grown ≤ length spares
    enough =
        let all = ap length clean_parts.0 ∙ length-append (filter clean (take base whole)) spares in
        let kept = length-kept (is_among disk.grown) 0 whole in
        let few = few_flaws disk zone cylinder at (spares_by PerCylinder layout) in
        omega (arith, all, kept, few, clean_parts.1, few_grown, length-good disk zone cylinder at)

    -- how many grown entries come before one of the base list
    grown_before : (j : ℕ) → j ≤ base → length (filter (is_among disk.grown) (take j (take base whole))) ≡ rank j grown
    grown_before j l =
        let inside : j ≤ length whole = omega (arith, base_inside) in
        let front = length_front (is_among disk.grown) whole j inside in
        ap (λ xs. length (filter (is_among disk.grown) xs)) (take-take j base whole l)
        ∙ omega (arith, front, kept_and_dropped (is_among disk.grown) (take j whole), length-take-le j whole inside)

    -- a sector stays, or moves to the spare that stands in for it
    pub place_by_cylinder : (j : ℕ) → j < length sectors → IsGoodOf disk zone cylinder j (entry_of_sector grown base j)
    place_by_cylinder j h =
        let below : j < base = omega (arith, length_by PerCylinder layout) in
        let one = element_at whole j (omega (arith, base_inside)) in
        let here : slice_get (take base whole) j ≡ Some one.0 = get_take base whole j below ∙ one.1 in
        let bad : has grown j ≡ is_among disk.grown one.0 = is_marked_at (is_among disk.grown) whole j one.0 one.1 in
        let listed = ap (λ xs. slice_get xs j) (list_by PerCylinder layout) in
        elim (cases_Bool (has grown j)) [
          | inl among ↦
              let start = base - rank base grown + rank j grown in
              let spare = element_at spares (rank j grown) (omega (arith, enough, rank_marked grown grown_ascend j base among below)) in
              let in_clean : slice_get (filter clean whole) start ≡ Some spare.0 = ap (λ xs. slice_get xs start) clean_parts.0
              ∙ (get_right (filter clean (take base whole)) spares (rank j grown) start (omega (arith, clean_parts.1)) ∙ spare.1) in
              let in_whole = kth (is_among disk.grown) whole start (slice_get_within (filter clean whole) start spare.0 in_clean) in
              rw among (on_good j (slipped start grown) spare.0
              (listed ∙ replaced-moves disk (take base whole) spares j one.0 spare.0 here (sym bad ∙ among)
              (ap (slice_get spares) (grown_before j (omega arith)) ∙ spare.1))
              (ap (λ xs. slice_get xs (slipped start grown)) (sym whole-is) ∙ (sym in_whole.1 ∙ in_clean)))
          | inr free ↦ rw free (on_good j j one.0 (listed ∙ replaced-stays disk (take base whole) spares j one.0 here (sym bad ∙ free))
              (ap (λ xs. slice_get xs j) (sym whole-is) ∙ one.1))
        ]

    -- a slot of an entry that is not marked is not grown
    pub not_grown : (k : ℕ) (place : Place) → IsGood disk zone cylinder k place → has grown k ≡ is_among disk.grown place
    not_grown k place good = is_marked_at (is_among disk.grown) whole k place (ap (λ xs. slice_get xs k) whole-is ∙ good.listed)

  -- ---- by the layout

  -- the index among the good slots of a sector
  pub placed : (layout : Layout) → disk.layout ≡ layout → (j : ℕ) → j < length sectors
      → IsGoodOf disk zone cylinder j (good_number layout disk zone cylinder j)
  placed PerTrack e j h = let split = split_by_track e j h in place_by_track e j (j / size) (j % size) split.2 split.0 split.1
  placed PerCylinder e j h = place_by_cylinder e j h

  found_at : (layout : Layout) → disk.layout ≡ layout → (j : ℕ) (place : Place) → slice_get sectors j ≡ Some place
      → IsGood disk zone cylinder (good_number layout disk zone cylinder j) place
  found_at layout e j place found = is_good j (good_number layout disk zone cylinder j) place
      (placed layout e j (slice_get_within sectors j place found)) found

  base_of : disk.layout ≡ PerCylinder → (j : ℕ) (place : Place) → slice_get sectors j ≡ Some place → j < base
  base_of e j place found = omega (arith, slice_get_within sectors j place found, length_by PerCylinder e)

  -- no place is there twice
  one_index : (layout : Layout) → disk.layout ≡ layout → (i j : ℕ) (place : Place) → slice_get sectors i ≡ Some place
      → slice_get sectors j ≡ Some place → i ≡ j
  one_index PerTrack e i j place found again =
      let same : i / size ≡ j / size = sym (head_by_track e i place found) ∙ head_by_track e j place again in
      let index = (found_at PerTrack e i place found).index ∙ sym (found_at PerTrack e j place again).index in
      let before = ap (λ q. q * zone.sectors - rank (q * zone.sectors) defects) same in
      omega (arith, index, before, div-add-mod' i size, div-add-mod' j size, ap (λ q. q * size) same)
  one_index PerCylinder e i j place found again =
      one_entry grown (grown_ascend e) base i j (base_of e i place found) (base_of e j place again)
      ((found_at PerCylinder e i place found).index ∙ sym (found_at PerCylinder e j place again).index)

  pub one_index_on : (i j : ℕ) (place : Place) → slice_get (data_list disk zone cylinder) i ≡ Some place
      → slice_get (data_list disk zone cylinder) j ≡ Some place → i ≡ j
  one_index_on i j place found again = let list = list_by disk.layout refl in
      one_index disk.layout refl i j place (ap (λ xs. slice_get xs i) list ∙ found) (ap (λ xs. slice_get xs j) list ∙ again)

  -- and none is a bad slot
  clean_entry : (layout : Layout) → disk.layout ≡ layout → (layout ≡ PerTrack → disk.grown ≡ []) → (j : ℕ) (place : Place)
      → slice_get sectors j ≡ Some place → is_among disk.grown place ≡ false
  clean_entry PerTrack e fits j place found = ap (λ grown. is_among grown place) (fits refl)
  clean_entry PerCylinder e fits j place found = sym (not_grown e (good_number PerCylinder disk zone cylinder j) place
      (found_at PerCylinder e j place found))
      ∙ (entry_holds grown (grown_ascend e) base j (base_of e j place found)).0

  pub entry_of : (j : ℕ) (place : Place) → slice_get (data_list disk zone cylinder) j ≡ Some place
      → LiesOn disk cylinder place × (is_among disk.defects place ≡ false) × ((disk.layout ≡ PerTrack → disk.grown ≡ [])
      → is_among disk.grown place ≡ false)
  entry_of j place found =
      let there = ap (λ xs. slice_get xs j) (list_by disk.layout refl) ∙ found in
      let good = found_at disk.layout refl j place there in
      (good.lies, good.clean, λ fits. clean_entry disk.layout refl fits j place there)

  -- ---- what a slot holds

  module _ (place : Place) (c : place.track.cylinder ≡ cylinder) (h : place.track.head < disk.heads) (l : place.slot < zone.sectors) where
    abbrev pub Holds : Option ℕ → Type 0
    Holds result = MatchOption result ((j : ℕ) → slice_get sectors j ≡ Some place → ⊥) (λ j. slice_get sectors j ≡ Some place)

    -- a slot is marked if it is a defect, and then holds no sector
    pub defect_at : has defects (position place) ≡ is_among disk.defects place
    defect_at = is_marked_at (is_among disk.defects) slots (position place) place (slot_of place c h l).1

    pub none_on_defect : is_among disk.defects place ≡ true → Holds None
    none_on_defect bad = λ j found. true≢false (sym bad ∙ (found_at disk.layout refl j place found).clean)

    module _ (stays : is_among disk.defects place ≡ false) (k : ℕ) (is : k ≡ position place - rank (position place) defects) where
      -- how many good slots come before the track, which are no more than before the place
      abbrev pub before : ℕ
      before = place.track.head * zone.sectors - rank (place.track.head * zone.sectors) defects

      pub before_good : before ≤ k
      before_good =
          let first = place.track.head * zone.sectors in
          omega (arith, rank-step first (position place) defects defects_ascend (omega arith), rank-below first defects defects_ascend)

      pub none_by_track : disk.layout ≡ PerTrack → size ≤ k - before → Holds None
      none_by_track layout late = λ j found.
          let head = head_by_track layout j place found in
          let split = split_by_track layout j (slice_get_within sectors j place found) in
          let first = ap (λ q. q * zone.sectors - rank (q * zone.sectors) defects) head in
          absurd (omega (arith, (found_at PerTrack layout j place found).index, split.1, first))

      on_slot : (j i : ℕ) → i ≡ k → IsGoodOf disk zone cylinder j i → slice_get sectors j ≡ Some place
      on_slot j i e on = holds j i place on c h l stays (e ∙ is)

      pub some_by_head : disk.layout ≡ PerTrack → (i : ℕ) → i ≡ k - before → i < size → Holds (Some (place.track.head * size + i))
      some_by_head layout i e early = let j = place.track.head * size + i in
          on_slot j (before + i) (omega (arith, before_good)) (place_by_track layout j place.track.head i refl h early)

      -- what is said of the entry in the good list is so of the place
      pub judged_entry : disk.layout ≡ PerCylinder → (result : Option ℕ) → IfNone result (HoldsNone grown base k)
          → IfSome result (HoldsSector grown base k) → Holds result
      judged_entry layout None none found_ = λ j found.
          let same = (found_at PerCylinder layout j place found).index ∙ sym is in
          let held_there = entry_holds grown (grown_ascend layout) base j (base_of layout j place found) in
          elim none [
            | inl marks ↦ true≢false (sym marks ∙ (ap (has grown) (sym same) ∙ held_there.0))
            | inr late ↦ absurd (omega (arith, held_there.1, ap (λ k. k - rank k grown) same))
          ]
      judged_entry layout (Some j) none found_ =
          let own = held grown (grown_ascend layout) base k j found_ in
          on_slot j (entry_of_sector grown base j) own.1 (place_by_cylinder layout j (omega (arith, own.0, length_by PerCylinder layout)))
