-- Sectors of a disk whose tracks are long.
use Rattle.std.proofs.lemmas.Bool.{and_parts}
use Rattle.fb_units.proofs.Lists.{all_weaker, all_range}
use Rattle.fb_maker.proofs.Words.{length-most, ◌≡◌, ℕ, zero, suc, ◌+◌, ◌-◌, ◌*◌, ◌%◌, ◌<◌, ◌≤◌, List, [], ◌∷◌, length, map, take, drop}
use Rattle.fb_maker.proofs.Words.{true, false, refl, sym, ap, ◌∙◌, arith, subst, append-nil, Some, None, inl, inr, ◌==◌, nat_le, nat_lt}
use Rattle.fb_maker.proofs.Words.{not, slice_get, AllByRecursion, flat_map, range_with_len, list_all, mod-lt, mod-eq_of_lt, add-mod_left}
use Rattle.fb_maker.proofs.Words.{length-append, length-take, none-some, cases_Bool, nat_tests, Place, Zone, PerTrack, Shape, slots_at}
use Rattle.fb_maker.proofs.Words.{offset_at, offset_in, turn_position, is_among, places, turn, good_track, data_list, data_list_by}
use Rattle.fb_maker.proofs.Words.{zone_places, first_apart, IsSound, cylinder_size_by, is_later, is_long}
use Rattle.std.proofs.lemmas.List.FromFn.{length-range_with_len}
use Rattle.fb_units.specs.declared.types.Track.{Track}
use Rattle.fb_units.specs.Tracks.{same_track}
use Rattle.fb_maker.proofs.{Left.left_get, Left.left_rest, Breaks.IsSpread, Breaks.SpreadsOn, Breaks.Ascends}
use Rattle.fb_maker.proofs.{Breaks.ascends_filter, Breaks.ascends_take, Breaks.spreads_ascending, Breaks.spreads_all, Breaks.spread_nothing}
use Rattle.fb_maker.proofs.{Breaks.Counts, Breaks.counts_above, Breaks.counts_both, Breaks.counts_range}

-- the slots of a turn come by one after another
counts_turn : (n offset : ℕ) → offset < n → Counts (λ slot. (slot + n - offset) % n) 0 (turn n offset)
counts_turn n offset inside =
    let key = λ (slot : ℕ). (slot + n - offset) % n in
    counts_both key 0 (n - offset) (range_with_len offset (n - offset)) (range_with_len 0 offset)
    (omega (arith, length-range_with_len offset (n - offset)))
    (counts_range key 0 offset (n - offset) (λ i low.
    let round : offset + i + n - offset ≡ n + i = omega arith in
    ap (λ x. x % n) round ∙ add-mod_left n i ∙ mod-eq_of_lt (omega arith) ∙ omega arith))
    (counts_range key (n - offset) 0 offset (λ i low.
    let round : 0 + i + n - offset ≡ n - offset + i = omega arith in
    ap (λ x. x % n) round ∙ mod-eq_of_lt (omega arith)))

module _ (disk : Shape) (track : Track) where
  abbrev at : ℕ → Place
  at slot = record { track = track; slot = slot }

  own_track : same_track track track ≡ true
  own_track = grind (arith, nat_tests)

  comes_later : (a b : ℕ) → turn_position disk (at a) < turn_position disk (at b) → is_later disk (at a) (at b) ≡ true
  comes_later a b less = let is : nat_lt (turn_position disk (at a)) (turn_position disk (at b)) ≡ true = grind (arith, nat_tests) in
      rw (own_track, is) refl

  all_later : (a : ℕ) (slots : List ℕ) → AllByRecursion (λ s. turn_position disk (at a) + 1 ≤ turn_position disk (at s)) slots
      → AllByRecursion (λ b. is_later disk (at a) b ≡ true) (map at slots)
  all_later a [] all = tt
  all_later a (s ∷ slots) all = (comes_later a s (omega (arith, all.0)), all_later a slots all.1)

  ascends_counts : (base : ℕ) (slots : List ℕ) → Counts (λ slot. turn_position disk (at slot)) base slots
      → Ascends (is_later disk) (map at slots)
  ascends_counts base [] counts = tt
  ascends_counts base (a ∷ slots) counts = (
    all_later a slots (subst (λ n. AllByRecursion (λ s. n + 1 ≤ turn_position disk (at s)) slots) (sym counts.0)
        (counts_above (λ slot. turn_position disk (at slot)) (base + 1) (base + 1) slots (omega arith) counts.1)),
    ascends_counts (base + 1) slots counts.1,
  )

  ascends_track : (zone : Zone) → 0 < zone.sectors → slots_at disk.zones track.cylinder ≡ zone.sectors
      → offset_at disk.zones disk.heads track ≡ offset_in zone disk.heads track → Ascends (is_later disk) (good_track disk zone track)
  ascends_track zone some slots offset =
      let n = zone.sectors in
      let o = offset_in zone disk.heads track in
      let inside : o < n = mod-lt _ some in
      ascends_filter (is_later disk) (λ place. not (is_among disk.defects place)) (map at (turn n o))
      (ascends_counts 0 (turn n o)
      (subst (λ (p : ℕ × ℕ). Counts (λ slot. (slot + p.0 - p.1) % p.0) 0 (turn n o)) (λ i. (sym slots i, sym offset i))
      (counts_turn n o inside)))

-- if lists are together as long as they can be, each of them is
module _ {A : Type 0} (f : ℕ → List A) (m : ℕ) (bound : (k : ℕ) → length (f k) ≤ m) where
  each_full : (a h : ℕ) → length (flat_map f (range_with_len a h)) ≡ h * m → AllByRecursion (λ k. length (f k) ≡ m) (range_with_len a h)
  each_full a zero whole = tt
  each_full a (suc h) whole =
      let parts = length-append (f a) (flat_map f (range_with_len (a + 1) h)) in
      let rest = length-most f (a + 1) h m (λ x low high. bound x) in
      let one = bound a in
      (omega arith, each_full (a + 1) h (omega arith))

module _ (disk : Shape) (sound : IsSound disk) (per_track : disk.layout ≡ PerTrack) where
  cylinder_spreads : (i : ℕ) (zone : Zone) (cylinder : ℕ) → slice_get disk.zones i ≡ Some zone → zone.first ≤ cylinder
      → cylinder ≤ zone.last → is_long zone ≡ true
      → slots_at disk.zones cylinder ≡ zone.sectors → ((head : ℕ) → offset_at disk.zones disk.heads
      (record { cylinder = cylinder; head = head }) ≡ offset_in zone disk.heads (record { cylinder = cylinder; head = head }))
      → SpreadsOn (is_later disk) (data_list disk zone cylinder)
  cylinder_spreads i zone cylinder is low high long slots offsets =
      let m = zone.sectors - zone.spares in
      let sixteen : 16 ≤ m = grind (arith, nat_tests) in
      let track = λ (head : ℕ). take m (good_track disk zone (record { cylinder = cylinder; head = head })) in
      let whole = sound.equal i zone cylinder (record { zone_is = is; from = low; upto = high }) in
      let listed : data_list disk zone cylinder ≡ flat_map track (range_with_len 0 disk.heads) =
      ap (λ layout. data_list_by layout disk zone cylinder) per_track in
      let size : length (flat_map track (range_with_len 0 disk.heads)) ≡ disk.heads * m = sym (ap length listed) ∙ whole
      ∙ ap (λ layout. cylinder_size_by layout disk zone) per_track in
      subst (SpreadsOn (is_later disk)) (sym listed)
      (spreads_all (is_later disk) track (range_with_len 0 disk.heads)
      (all_weaker (λ head. length (track head) ≡ m) (λ head. SpreadsOn (is_later disk) (track head))
      (λ head full. spreads_ascending (is_later disk) (track head)
      (ascends_take (is_later disk) m (good_track disk zone (record { cylinder = cylinder; head = head }))
      (ascends_track disk (record { cylinder = cylinder; head = head }) zone (omega arith) slots (offsets head)))
      (omega (arith, full)))
      (range_with_len 0 disk.heads)
      (each_full track m (λ head. omega (arith, length-take m (good_track disk zone (record { cylinder = cylinder; head = head })))) 0
      disk.heads size)))

  zone_spreads : (i : ℕ) (zone : Zone) → slice_get disk.zones i ≡ Some zone → is_long zone ≡ true
      → ((cylinder : ℕ) → zone.first ≤ cylinder → cylinder ≤ zone.last → slots_at disk.zones cylinder ≡ zone.sectors)
      → ((track : Track) → zone.first ≤ track.cylinder → track.cylinder ≤ zone.last
      → offset_at disk.zones disk.heads track ≡ offset_in zone disk.heads track)
      → SpreadsOn (is_later disk) (zone_places disk zone)
  zone_spreads i zone is long slots offsets =
      spreads_all (is_later disk) (data_list disk zone) (range_with_len zone.first (zone.last + 1 - zone.first))
      (all_range (λ cylinder. SpreadsOn (is_later disk) (data_list disk zone cylinder)) zone.first (zone.last + 1 - zone.first)
      (λ cylinder low high. cylinder_spreads i zone cylinder is low (omega arith) long (slots cylinder low (omega arith))
      (λ head. offsets (record { cylinder = cylinder; head = head }) low (omega arith))))

  -- zones from the i-th on, the first of which begins here
  zones_spread : (zones : List Zone) (i begin : ℕ) → drop i disk.zones ≡ zones → first_apart i begin zones ≡ None
      → list_all is_long zones ≡ true
      → ((cylinder : ℕ) → begin ≤ cylinder → slots_at disk.zones cylinder ≡ slots_at zones cylinder)
      → ((track : Track) → begin ≤ track.cylinder → offset_at disk.zones disk.heads track ≡ offset_at zones disk.heads track)
      → AllByRecursion (λ zone. SpreadsOn (is_later disk) (zone_places disk zone)) zones
  zones_spread [] i begin left contiguous long slots offsets = tt
  zones_spread (zone ∷ zones) i begin left contiguous long slots offsets =
      let both = and_parts (is_long zone) (list_all is_long zones) long in
      elim (cases_Bool (zone.first == begin)) [
        | inl begins ↦
            let first : zone.first ≡ begin = grind (arith, nat_tests) in
            let rest : first_apart (i + 1) (zone.last + 1) zones ≡ None = sym (rw begins refl) ∙ contiguous in
            let is : slice_get disk.zones i ≡ Some zone = left_get disk.zones i zone zones left in
            let some = sound.some_cylinders i zone is in (
              zone_spreads i zone is both.0
                  (λ cylinder low high. slots cylinder (omega arith)
                  ∙ (let here : nat_le cylinder zone.last ≡ true = grind (arith, nat_tests) in rw here refl))
                  (λ track low high. offsets track (omega arith)
                  ∙ (let here : nat_le track.cylinder zone.last ≡ true = grind (arith, nat_tests) in rw here refl)),
              zones_spread zones (i + 1) (zone.last + 1) (left_rest disk.zones i zone zones left) rest both.1
                  (λ cylinder low. slots cylinder (omega arith)
                  ∙ (let past : nat_le cylinder zone.last ≡ false = grind (arith, nat_tests) in rw past refl))
                  (λ track low. offsets track (omega arith)
                  ∙ (let past : nat_le track.cylinder zone.last ≡ false = grind (arith, nat_tests) in rw past refl)),
            )
        | inr apart ↦ absurd (none-some i (sym contiguous ∙ rw apart refl))
      ]

  pub long_tracks_spread : list_all is_long disk.zones ≡ true → IsSpread (is_later disk) (places disk)
  unfolding places
  long_tracks_spread long = subst (IsSpread (is_later disk)) (append-nil (flat_map (zone_places disk) disk.zones))
      (spreads_all (is_later disk) (zone_places disk) disk.zones
      (zones_spread disk.zones 0 0 refl sound.contiguous long (λ c low. refl) (λ t low. refl)) [] (spread_nothing (is_later disk)))
