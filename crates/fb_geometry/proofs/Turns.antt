-- The slots of a cylinder in the order of their turns, as one list.
use Rattle.fb_units.proofs.Alike.{flat_map_same}
use Rattle.fb_units.proofs.Parts.{filter-flat_map, flat-ranges, get_range, map-ranges, range-append}
use Rattle.fb_geometry.proofs.Words.{Bool, Place, Shape, Some, Track, Zone, add-mod_left, ap, arith, by_head, cases_lt, cylinder_slots}
use Rattle.fb_geometry.proofs.Words.{div-add-mod', div-mul-add, filter, good_track, inl, inr, is_among, length, length-map-range_with_len}
use Rattle.fb_geometry.proofs.Words.{map, map-append, mod-eq_of_lt, mod-lt, mod-mul-add, mul-add-lt, not, offset_in, option_map}
use Rattle.fb_geometry.proofs.Words.{position_in, range_with_len, refl, slice_get, slice_get-map, slot_at, sym, turn, ℕ, ◌%◌, ◌*◌, ◌++◌}
use Rattle.fb_geometry.proofs.Words.{◌+◌, ◌-◌, ◌/◌, ◌<◌, ◌∙◌, ◌≡◌, ◌≤◌}

-- ---- once round

pub round_behind : (a n : ℕ) → n ≤ a → a < n + n → a % n ≡ a - n
round_behind a n from upto = let turned : a ≡ n + (a - n) = omega arith in
    ap (λ x. x % n) turned ∙ (add-mod_left n (a - n) ∙ mod-eq_of_lt (omega arith))

-- forward by an offset, and back again
pub round-back : (offset i n : ℕ) → offset < n → i < n → ((offset + i) % n + n - offset) % n ≡ i
round-back offset i n o h = elim (cases_lt (offset + i) n) [
  | inl near ↦ ap (λ x. (x + n - offset) % n) (mod-eq_of_lt near) ∙ (round_behind (offset + i + n - offset) n (omega arith)
      (omega arith) ∙ omega arith)
  | inr far ↦ ap (λ x. (x + n - offset) % n) (round_behind (offset + i) n far (omega arith))
      ∙ (ap (λ x. x % n) (omega arith) ∙ mod-eq_of_lt h)
]

pub round-forward : (offset slot n : ℕ) → offset < n → slot < n → (offset + (slot + n - offset) % n) % n ≡ slot
round-forward offset slot n o h = elim (cases_lt slot offset) [
  | inl before ↦ ap (λ x. (offset + x) % n) (mod-eq_of_lt (omega arith)) ∙ (round_behind (offset + (slot + n - offset)) n (omega arith)
      (omega arith) ∙ omega arith)
  | inr after ↦ ap (λ x. (offset + x) % n) (round_behind (slot + n - offset) n (omega arith) (omega arith))
      ∙ (ap (λ x. x % n) (omega arith) ∙ mod-eq_of_lt h)
]

-- ---- ranges

-- ---- positions and places

module _ (zone : Zone) (heads : ℕ) (some : 0 < zone.sectors) where
  -- the place at a position of a track
  pub slot_on : (cylinder head i : ℕ) → i < zone.sectors → slot_at zone heads cylinder (head * zone.sectors + i)
      ≡ record {
        track = record { cylinder = cylinder; head = head };
        slot = (offset_in zone heads (record { cylinder = cylinder; head = head }) + i) % zone.sectors;
      }
  slot_on cylinder head i h = rw (div-mul-add head zone.sectors i h, mod-mul-add head zone.sectors i h) refl

  pub offset_below : (track : Track) → offset_in zone heads track < zone.sectors
  offset_below track =
      mod-lt ((track.cylinder - zone.first) * (zone.cylinder_skew + (heads - 1) * zone.track_skew) + track.head * zone.track_skew) some

  -- the position of the place at a position
  pub position_in-slot_at : (cylinder position : ℕ) → position_in zone heads (slot_at zone heads cylinder position) ≡ position
  position_in-slot_at cylinder position =
      let track : Track = record { cylinder = cylinder; head = position / zone.sectors } in
      rw (round-back (offset_in zone heads track) (position % zone.sectors) zone.sectors (offset_below track) (mod-lt position some))
      (div-add-mod' position zone.sectors)

  -- the place at the position of a place
  pub slot_at-position_in : (place : Place) → place.slot < zone.sectors
      → slot_at zone heads place.track.cylinder (position_in zone heads place) ≡ place
  slot_at-position_in place h =
      let turned = place.slot + zone.sectors - offset_in zone heads place.track in
      slot_on place.track.cylinder place.track.head (turned % zone.sectors) (mod-lt turned some)
      ∙ rw (round-forward (offset_in zone heads place.track) place.slot zone.sectors (offset_below place.track) h) refl

  pub position_below : (place : Place) → place.track.head < heads → position_in zone heads place < heads * zone.sectors
  position_below place h = let turned = place.slot + zone.sectors - offset_in zone heads place.track in
      omega (arith, mul-add-lt place.track.head zone.sectors (turned % zone.sectors) heads h (mod-lt turned some))

  -- the turn of a track
  turn_slots : (track : Track) → map (λ slot. record { track = track; slot = slot }) (turn zone.sectors (offset_in zone heads track))
      ≡ map (slot_at zone heads track.cylinder) (range_with_len (track.head * zone.sectors) zone.sectors)
  turn_slots track =
      let n = zone.sectors in
      let offset = offset_in zone heads track in
      let first = track.head * n in
      let below : offset < n = offset_below track in
      let of = λ (slot : ℕ). let place : Place = record { track = track; slot = slot } in place in
      let slot = slot_at zone heads track.cylinder in
      let whole : n ≡ n - offset + offset = omega arith in
      let near = map-ranges of slot offset first (n - offset) (λ i l. sym (slot_on track.cylinder track.head i (omega arith)
      ∙ ap of (mod-eq_of_lt (omega arith)))) in
      let far = map-ranges of slot 0 (first + (n - offset)) offset (λ i l.
      sym (ap slot (let sum : first + (n - offset) + i ≡ first + (n - offset + i) = omega arith in sum)
      ∙ (slot_on track.cylinder track.head (n - offset + i) (omega arith) ∙ ap of (round_behind (offset + (n - offset + i)) n (omega arith)
      (omega arith) ∙ omega arith)))) in
      map-append of (range_with_len offset (n - offset)) (range_with_len 0 offset) ∙ (ap (λ xs. xs ++ map of (range_with_len 0 offset)) near
      ∙ (ap (λ xs. map slot (range_with_len first (n - offset)) ++ xs) far
      ∙ sym (ap (λ m. map slot (range_with_len first m)) whole ∙ (ap (map slot) (range-append first (n - offset) offset)
      ∙ map-append slot (range_with_len first (n - offset)) (range_with_len (first + (n - offset)) offset)))))

  pub length-cylinder_slots : (cylinder : ℕ) → length (cylinder_slots zone heads cylinder) ≡ heads * zone.sectors
  length-cylinder_slots cylinder = length-map-range_with_len (slot_at zone heads cylinder) 0 (heads * zone.sectors)

  pub get-cylinder_slots : (cylinder position : ℕ) → position < heads * zone.sectors
      → slice_get (cylinder_slots zone heads cylinder) position ≡ Some (slot_at zone heads cylinder position)
  get-cylinder_slots cylinder position h = slice_get-map (slot_at zone heads cylinder) (range_with_len 0 (heads * zone.sectors)) position
      ∙ ap (option_map (slot_at zone heads cylinder)) (get_range 0 (heads * zone.sectors) position h ∙ ap Some (omega arith))

module _ (disk : Shape) (zone : Zone) (some : 0 < zone.sectors) where
  abbrev pub is_good : Place → Bool
  is_good place = not (is_among disk.defects place)

  -- the good slots of a track are those of its part of the cylinder
  pub good_track-is : (track : Track) → good_track disk zone track
      ≡ filter is_good (map (slot_at zone disk.heads track.cylinder) (range_with_len (track.head * zone.sectors) zone.sectors))
  good_track-is track = ap (filter is_good) (turn_slots zone disk.heads some track)

  -- the good slots of a cylinder
  pub good_cylinder-is : (cylinder : ℕ) → by_head disk cylinder (good_track disk zone)
      ≡ filter is_good (cylinder_slots zone disk.heads cylinder)
  good_cylinder-is cylinder =
      let slot = slot_at zone disk.heads cylinder in
      let slots = λ (head : ℕ). map slot (range_with_len (head * zone.sectors) zone.sectors) in
      let none : 0 * zone.sectors ≡ 0 = omega arith in
      flat_map_same (λ head. good_track disk zone (record { cylinder = cylinder; head = head })) (λ head. filter is_good (slots head))
      (λ head. good_track-is (record { cylinder = cylinder; head = head })) (range_with_len 0 disk.heads)
      ∙ (filter-flat_map is_good slots (range_with_len 0 disk.heads) ∙ ap (filter is_good) (flat-ranges slot zone.sectors 0 disk.heads
      ∙ ap (λ first. map slot (range_with_len first (disk.heads * zone.sectors))) none))
