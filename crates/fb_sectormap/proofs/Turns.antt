-- The sectors of a stretch come by one after another in one turn.
use Rattle.fb_sectormap.proofs.Words.{◌≡◌, ℕ, ◌+◌, ◌-◌, ◌%◌, ◌<◌, ◌≤◌, List, [], ◌∷◌, true, ap, sym, ◌∙◌, arith, inl, inr, nat_le}
use Rattle.fb_sectormap.proofs.Words.{and_from, cases_lt, cases_Bool, mod-add-mod, mod-eq_of_lt, mod-lt, Place, Track, same_track, Zone}
use Rattle.fb_sectormap.proofs.Words.{Shape, slots_at, turn_position, place_at, neighbour, is_later}
use Rattle.std.specs.Prelude.{nat_lt}
use Rattle.std.proofs.lemmas.Bool.{lt-ltb}
use Rattle.fb_units.proofs.Tracks.{track_itself}
use Rattle.fb_geometry.specs.Shape.{offset_at}

-- a track's offset is one of its slots
pub offset-below : (zones : List Zone) (heads : ℕ) (track : Track) → 0 < slots_at zones track.cylinder
    → offset_at zones heads track < slots_at zones track.cylinder
offset-below [] heads track some = absurd (omega arith)
offset-below (zone ∷ zones) heads track some = elim (cases_Bool (nat_le track.cylinder zone.last)) [
  | inl here ↦ let sectors : 0 < zone.sectors = rw here at some in rw here (mod-lt _ sectors)
  | inr later ↦ let rest : 0 < slots_at zones track.cylinder = rw later at some in rw later (offset-below zones heads track rest)
]

-- a slot i slots on comes i slots later in the turn, as long as the turn doesn't end
round : (slot i slots offset : ℕ) → 0 < slots → offset ≤ slots → (slot + slots - offset) % slots + i < slots
    → ((slot + i) % slots + slots - offset) % slots ≡ (slot + slots - offset) % slots + i
round slot i slots offset some low inside =
    ap (λ x. x % slots) (let one : (slot + i) % slots + slots - offset ≡ (slot + i) % slots + (slots - offset) = omega arith in one)
    ∙ mod-add-mod (slot + i) slots (slots - offset)
    ∙ ap (λ x. x % slots) (let two : slot + i + (slots - offset) ≡ slot + slots - offset + i = omega arith in two)
    ∙ sym (mod-add-mod (slot + slots - offset) slots i)
    ∙ mod-eq_of_lt inside

module _ (disk : Shape) (lbn : ℕ) (place : Place) (count : ℕ) (slot : place.slot < slots_at disk.zones place.track.cylinder)
    (next : (i : ℕ) → i < count → place_at disk (lbn + i) ≡ neighbour disk place i)
    (one_turn : turn_position disk place + count ≤ slots_at disk.zones place.track.cylinder) where
  turn-of : (i : ℕ) → i < count → turn_position disk (neighbour disk place i) ≡ turn_position disk place + i
  turn-of i less =
      let slots = slots_at disk.zones place.track.cylinder in
      let some : 0 < slots = omega arith in
      let low = offset-below disk.zones disk.heads place.track some in
      round place.slot i slots (offset_at disk.zones disk.heads place.track) some (omega arith) (omega (arith, one_turn))

  -- each sector of the stretch comes by later than the one before it
  pub later-within : (i : ℕ) → 0 < i → i < count → is_later disk (place_at disk (lbn + i - 1)) (place_at disk (lbn + i)) ≡ true
  later-within i some less =
      let before : place_at disk (lbn + i - 1) ≡ neighbour disk place (i - 1) = ap (place_at disk) (omega arith)
      ∙ next (i - 1) (omega arith) in
      ap (λ p. is_later disk p (place_at disk (lbn + i))) before ∙ ap (is_later disk (neighbour disk place (i - 1))) (next i less)
      ∙ and_from (same_track place.track place.track)
      (nat_lt (turn_position disk (neighbour disk place (i - 1))) (turn_position disk (neighbour disk place i)))
      (track_itself place.track) (lt-ltb (turn_position disk (neighbour disk place (i - 1))) (turn_position disk (neighbour disk place i))
      (omega (arith, turn-of (i - 1) (omega arith), turn-of i less)))

  -- if sectors up to the stretch come by in one turn, so do they with those of the stretch
  pub later-through : (first length more : ℕ) → first + length ≡ lbn → more ≤ count
      → ((i : ℕ) → 0 < i → i < length → is_later disk (place_at disk (first + i - 1)) (place_at disk (first + i)) ≡ true)
      → is_later disk (place_at disk (lbn - 1)) (place_at disk lbn) ≡ true
      → (i : ℕ) → 0 < i → i < length + more → is_later disk (place_at disk (first + i - 1)) (place_at disk (first + i)) ≡ true
  later-through first length more e few upto here i some less = elim (cases_lt i length) [
    | inl early ↦ upto i some early
    | inr late ↦ elim (cases_lt length i) [
      | inl behind ↦ ap (λ x. is_later disk (place_at disk x) (place_at disk (first + i)))
          (let same : first + i - 1 ≡ lbn + (i - length) - 1 = omega arith in same)
          ∙ ap (λ x. is_later disk (place_at disk (lbn + (i - length) - 1)) (place_at disk x)) (let same : first + i ≡ lbn + (i - length) =
          omega arith in same)
          ∙ later-within (i - length) (omega arith) (omega arith)
      | inr same ↦ ap (λ x. is_later disk (place_at disk x) (place_at disk (first + i))) (let before : first + i - 1 ≡ lbn - 1 =
          omega arith in before)
          ∙ ap (λ x. is_later disk (place_at disk (lbn - 1)) (place_at disk x)) (let at : first + i ≡ lbn = omega arith in at)
          ∙ here
    ]
  ]

  -- the same from any sector of the stretch on
  pub later-inside : (first : ℕ) → lbn ≤ first → (i : ℕ) → 0 < i → first - lbn + i < count
      → is_later disk (place_at disk (first + i - 1)) (place_at disk (first + i)) ≡ true
  later-inside first from i some less =
      let before : first + i - 1 ≡ lbn + (first - lbn + i) - 1 = omega arith in
      let here : first + i ≡ lbn + (first - lbn + i) = omega arith in
      ap (λ x. is_later disk (place_at disk x) (place_at disk (first + i))) before
      ∙ ap (λ x. is_later disk (place_at disk (lbn + (first - lbn + i) - 1)) (place_at disk x)) here
      ∙ later-within (first - lbn + i) (omega arith) less
