-- The sectors of a block pass, each for the least length of a slot, before the block has passed.
use Rattle.fb_model.proofs.Passages.{slots_short}
use Rattle.fb_detour.proofs.Words.{ap, arith, inl, inr, length, nat_lt, refl, subst, suc, sym, zero, ℕ, ◌%◌, ◌*◌, ◌+◌}
use Rattle.fb_detour.proofs.Words.{◌-◌, ◌/◌, ◌<◌, ◌∙◌, ◌≡◌, ◌≤◌, add-mod_right, mod-add-mod, mod-eq_of_lt, mod-lt}
use Rattle.fb_detour.proofs.Words.{mul-add-mod_self_right, and_parts, cases_lt, ltb-true, div-add-mod', least_of, least_unique}
use Rattle.fb_detour.proofs.Words.{wait_least, same_track, wait, Place, Track, slot_begin, places, IsTrackOf, Shape, offset_at, slots_at}
use Rattle.fb_detour.proofs.Words.{turn_position, IsSound, neighbour, track_at, place_at, same_tracks, in-turn, later-after, over}
use Rattle.fb_detour.proofs.Words.{slot-is, within-turn, begin_angle, end_angle, turned, begin_from, Disk, Block, block_end, next-le}
use Rattle.fb_detour.proofs.Words.{IsBlockOn}
use Rattle.fb_sectormap.proofs.ByCylinder.{has_place}
use Rattle.fb_sectormap.proofs.Turns.{offset-below}
use Rattle.fb_sectormap.specs.Cutting.{IsOneTurn, is_later}
use Rattle.fb_service.proofs.Unbroken.{at_angle, neighbour-begins}
use Rattle.fb_detour.proofs.Spread.{apart}

-- ---- where sectors are

-- the place is a slot of a track of the disk
pub record IsSlotOf (disk : Shape) (place : Place) : Type 0 where
  pub track : IsTrackOf disk place.track
  pub slot : place.slot < slots_at disk.zones place.track.cylinder

-- each sector's place is
pub place_of : (disk : Shape) (lbn : ℕ) → IsSound disk → lbn < length (places disk) → IsSlotOf disk (place_at disk lbn)
place_of disk lbn sound inside =
    let found = has_place disk sound lbn inside in
    subst (IsSlotOf disk) (sym found.placed_at) (record {
      track = record { cylinder = omega (arith, found.lies.cylinder_is, found.is.on_disk); head = found.lies.head };
      slot = subst (λ c. found.place.slot < slots_at disk.zones c) (sym found.lies.cylinder_is) found.lies.slot;
    })

-- ---- one turn

module _ (slots offset : ℕ) (low : offset ≤ slots) where
  -- the slot by its position in the turn
  back : (slot : ℕ) → slot < slots → ((slot + slots - offset) % slots + offset) % slots ≡ slot
  back slot inside =
      mod-add-mod (slot + slots - offset) slots offset
      ∙ (ap (λ x. x % slots) (let whole : slot + slots - offset + offset ≡ slot + slots = omega arith in whole)
      ∙ (add-mod_right slot slots ∙ mod-eq_of_lt inside))

  -- the slot so many positions on
  forward : (slot later k : ℕ) → slot < slots → later < slots → (later + slots - offset) % slots ≡ (slot + slots - offset) % slots + k
      → (slot + k) % slots ≡ later
  forward slot later k inside in_later on =
      let position = (slot + slots - offset) % slots in
      ap (λ x. (x + k) % slots) (sym (back slot inside))
      ∙ mod-add-mod (position + offset) slots k
      ∙ ap (λ x. x % slots) (let moved : position + offset + k ≡ (later + slots - offset) % slots + offset = omega (arith, on) in moved)
      ∙ back later in_later

-- a place of the same turn is a neighbour
is-neighbour : (disk : Shape) (place later : Place) (k : ℕ) → IsSlotOf disk place → IsSlotOf disk later → place.track ≡ later.track
    → turn_position disk later ≡ turn_position disk place + k → later ≡ neighbour disk place k
is-neighbour disk place later k is is_later same on =
    let slots = slots_at disk.zones place.track.cylinder in
    let offset = offset_at disk.zones disk.heads place.track in
    let low = offset-below disk.zones disk.heads place.track (omega (arith, is.slot)) in
    let inside : later.slot < slots = subst (λ (track : Track). later.slot < slots_at disk.zones track.cylinder) (sym same) is_later.slot in
    let here : (later.slot + slots - offset) % slots ≡ turn_position disk place + k =
    subst (λ (track : Track). turn_position disk (record { track = track; slot = later.slot }) ≡ turn_position disk place + k)
    (sym same) on in
    let slot = forward slots offset (omega arith) place.slot later.slot k is.slot inside here in
    ap (λ track. record { track = track; slot = later.slot }) (sym same) ∙ ap (λ s. record { track = place.track; slot = s }) (sym slot)

-- on one track, and no earlier in its turn
abbrev IsNoEarlier : Shape → Place → Place → Type 0
IsNoEarlier disk place later = (place.track ≡ later.track) × (turn_position disk place ≤ turn_position disk later)

-- positions rise through the turn of one track
rises : (disk : Shape) (lbn count : ℕ) → IsOneTurn disk lbn count → (i m : ℕ) → i ≤ m → m < count
    → IsNoEarlier disk (place_at disk (lbn + i)) (place_at disk (lbn + m))
rises disk lbn count one i zero le inside = subst (λ x. IsNoEarlier disk (place_at disk (lbn + i)) (place_at disk (lbn + x)))
    (let same : i ≡ 0 = omega arith in same) (refl, omega arith)
rises disk lbn count one i (suc m) le inside = elim (cases_lt m i) [
  | inl last ↦ subst (λ x. IsNoEarlier disk (place_at disk (lbn + i)) (place_at disk (lbn + x)))
      (let same : i ≡ suc m = omega arith in same) (refl, omega arith)
  | inr before ↦
      let here = place_at disk (lbn + m) in
      let next = place_at disk (lbn + m + 1) in
      let step = and_parts (same_track here.track next.track) (nat_lt (turn_position disk here) (turn_position disk next))
      (one m (omega arith)) in
      let rest = rises disk lbn count one i m before (omega arith) in
      let same : lbn + m + 1 ≡ lbn + suc m = omega arith in
      subst (λ x. IsNoEarlier disk (place_at disk (lbn + i)) (place_at disk x)) same (
        rest.0 ∙ same_tracks here.track next.track step.0,
        omega (arith, rest.1, ltb-true (turn_position disk here) (turn_position disk next) step.1),
      )
]

-- a block's sectors are on its track
pub its_track : (disk : Disk) (block : Block) (i : ℕ) → IsBlockOn disk.map block → i < block.count
    → (place_at disk.map (block.lbn + i)).track ≡ block.track
its_track disk block i fits inside =
    let on = rises disk.map block.lbn block.count fits.one_turn 0 i (omega arith) inside in
    sym (fits.track ∙ (ap (track_at disk.map) (let same : block.lbn ≡ block.lbn + 0 = omega arith in same) ∙ on.0))

-- ---- passing

-- from where a slot begins, the k-th slot behind it ends when the platter has turned so far
ends-behind : (rotation n slot k t : ℕ) → 0 < n → n ≤ rotation → slot < n → k < n → t % rotation ≡ slot_begin rotation n slot
    → wait rotation (slot_begin rotation n ((slot + k) % n + 1) % rotation) (t + 1) + 1
    ≡ slot_begin rotation n (slot + (k + 1)) - slot_begin rotation n slot
ends-behind rotation n slot k t some short inside less here =
    let angle : ℕ → ℕ = slot_begin rotation n in
    let end = angle ((slot + k) % n + 1) in
    let way = angle (slot + (k + 1)) - angle slot in
    let ahead : angle slot + 1 ≤ angle (slot + (k + 1)) = omega (arith, later-after rotation n some short slot (k + 1)) in
    let around : way ≤ rotation = omega (arith, within-turn rotation n some short slot (k + 1) (omega arith)) in
    let parts : t ≡ t / rotation * rotation + angle slot = omega (arith, div-add-mod' t rotation) in
    let reaches : (t + 1 + (way - 1)) % rotation ≡ end % rotation = elim (slot-is rotation n some short slot k inside less) [
      | inl within ↦
          let turn : end ≡ angle (slot + (k + 1)) = ap angle
          (let same : (slot + k) % n + 1 ≡ slot + (k + 1) = omega (arith, within.0) in same) in
          let at : t + 1 + (way - 1) ≡ t / rotation * rotation + end = omega (arith, turn) in
          ap (λ x. x % rotation) at ∙ mul-add-mod_self_right (t / rotation) rotation end
      | inr past ↦
          let turn : end + rotation ≡ angle (slot + (k + 1)) = sym (over rotation n some short ((slot + k) % n + 1))
          ∙ ap angle (let same : (slot + k) % n + 1 + n ≡ slot + (k + 1) = omega (arith, past.0) in same) in
          let at : t + 1 + (way - 1) ≡ (t / rotation + 1) * rotation + end = omega (arith, turn) in
          ap (λ x. x % rotation) at ∙ mul-add-mod_self_right (t / rotation + 1) rotation end
    ] in
    let least = least_unique rotation (end % rotation) (t + 1) (wait rotation (end % rotation) (t + 1)) (way - 1)
    (wait_least rotation (end % rotation) (t + 1) (mod-lt end (omega arith)))
    (least_of rotation (end % rotation) (t + 1) (way - 1) (omega arith) reaches) in
    omega (arith, least)

-- the wait from later on doesn't end earlier
waits-on : (disk : Shape) (place : Place) (t u : ℕ) → 0 < disk.rotation → t ≤ u → begin_from disk place t ≤ begin_from disk place u
unfolding begin_from
waits-on disk place t u some le = next-le disk.rotation (begin_angle disk place) t u some le

pub from-le : (disk : Shape) (place : Place) (t : ℕ) → t ≤ begin_from disk place t
unfolding begin_from
from-le disk place t = omega arith

-- when the last of these sectors ends, after the first one has begun
abbrev end_after : Shape → ℕ → ℕ → ℕ → ℕ
end_after disk first last from =
    let after = begin_from disk (place_at disk first) from + 1 in
    after + wait disk.rotation (end_angle disk (place_at disk last) % disk.rotation) after

module _ (disk : Shape) (sound : IsSound disk) (lbn count from : ℕ) (some : 0 < count) (on_disk : lbn + count ≤ length (places disk))
    (one : IsOneTurn disk lbn count) where
  abbrev sector : ℕ → Place
  sector i = place_at disk (lbn + i)

  abbrev slots : ℕ
  slots = slots_at disk.zones (sector 0).track.cylinder

  abbrev begin : ℕ
  begin = begin_from disk (sector 0) from

  -- how far behind the first one
  abbrev behind : ℕ → ℕ
  behind i = turn_position disk (sector i) - turn_position disk (sector 0)

  is-slot : (i : ℕ) → i < count → IsSlotOf disk (sector i)
  is-slot i inside = place_of disk (lbn + i) sound (omega (arith, on_disk))

  some-slots : 0 < slots
  some-slots = omega (arith, (is-slot 0 some).slot)

  short : slots ≤ disk.rotation
  short = slots_short disk.rotation disk.zones (sector 0).track.cylinder sound.short_slots

  is-behind : (i : ℕ) → i < count → sector i ≡ neighbour disk (sector 0) (behind i)
  is-behind i inside =
      let on = rises disk lbn count one 0 i (omega arith) inside in
      is-neighbour disk (sector 0) (sector i) (behind i) (is-slot 0 some) (is-slot i inside) on.0
      (let sum : turn_position disk (sector i) ≡ turn_position disk (sector 0) + behind i = omega (arith, on.1) in sum)

  few-behind : (i : ℕ) → i < count → behind i < slots
  few-behind i inside =
      let track = (rises disk lbn count one 0 i (omega arith) inside).0 in
      let position : turn_position disk (sector i) < slots_at disk.zones (sector i).track.cylinder = mod-lt _
      (omega (arith, (is-slot i inside).slot)) in
      omega (arith, position, ap (λ (t : Track). slots_at disk.zones t.cylinder) track)

  begins-at : begin % disk.rotation ≡ begin_angle disk (sector 0)
  begins-at = at_angle disk (sector 0) from (in-turn disk.rotation slots some-slots short (sector 0).slot (is-slot 0 some).slot)

  -- a sector begins no later than the platter turns from the first one to it
  begins : (i : ℕ) → i < count → begin_from disk (sector i) from ≤ begin + turned disk (sector 0) (behind i)
  begins i inside =
      let there = neighbour-begins disk (sector 0) some-slots short (is-slot 0 some).slot begin (behind i)
      (few-behind i inside) begins-at in
      omega (
        arith,
        waits-on disk (sector i) from begin sound.some_rotation (from-le disk (sector 0) from),
        ap (λ p. begin_from disk p begin) (is-behind i inside),
        there,
      )

  -- and ends when it has turned past it
  ends : (i : ℕ) → i < count → end_after disk (lbn + 0) (lbn + i) from ≡ begin + turned disk (sector 0) (behind i + 1)
  ends i inside =
      let there = ends-behind disk.rotation slots (sector 0).slot (behind i) begin some-slots short (is-slot 0 some).slot
      (few-behind i inside) begins-at in
      let angle : end_angle disk (sector i) ≡ end_angle disk (neighbour disk (sector 0) (behind i)) = ap (end_angle disk)
      (is-behind i inside) in
      omega (arith, there, ap (λ a. wait disk.rotation (a % disk.rotation) (begin + 1)) angle)

  -- so each passes before the last one ends
  pub passes-before : (i last : ℕ) → i ≤ last → last < count
      → begin_from disk (sector i) from + disk.rotation / slots ≤ end_after disk (lbn + 0) (lbn + last) from
  passes-before i last le inside =
      let on = rises disk lbn count one i last le inside in
      let angle : ℕ → ℕ = slot_begin disk.rotation slots in
      let slot = (sector 0).slot in
      let more : angle (slot + behind i) + disk.rotation / slots ≤ angle (slot + (behind last + 1)) =
      apart disk.rotation slots some-slots short (slot + behind i) (slot + (behind last + 1)) (omega (arith, on.1)) in
      omega (arith, begins i (omega arith), ends last inside, more, later-after disk.rotation slots some-slots short slot (behind i))

-- each sector of a block that has passed by then has begun to pass before, by the least length of a slot
pub sectors_pass : (disk : Disk) (block : Block) (from upto i : ℕ) → IsSound disk.map → IsBlockOn disk.map block → i < block.count
    → block_end disk.map block from ≤ upto
    → begin_from disk.map (place_at disk.map (block.lbn + i)) from + disk.map.rotation / slots_at disk.map.zones block.track.cylinder ≤ upto
sectors_pass disk block from upto i sound fits inside ended =
    let last = block.count - 1 in
    let before = passes-before disk.map sound block.lbn block.count from fits.some fits.on_disk fits.one_turn i last (omega arith)
    (omega arith) in
    let end : end_after disk.map (block.lbn + 0) (block.lbn + last) from ≡ block_end disk.map block from =
    ap (λ first. end_after disk.map first (block.lbn + last) from) (let same : block.lbn + 0 ≡ block.lbn = omega arith in same)
    ∙ ap (λ l. end_after disk.map block.lbn l from) (let same : block.lbn + last ≡ block.lbn + block.count - 1 = omega arith in same) in
    let share : disk.map.rotation / slots_at disk.map.zones (place_at disk.map (block.lbn + 0)).track.cylinder
    ≡ disk.map.rotation / slots_at disk.map.zones block.track.cylinder =
    ap (λ (t : Track). disk.map.rotation / slots_at disk.map.zones t.cylinder) (its_track disk block 0 fits fits.some) in
    omega (arith, before, end, share, ended)
