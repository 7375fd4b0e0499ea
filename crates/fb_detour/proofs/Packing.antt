-- A stay catches no more than the sectors that can pass while it lasts.
use Rattle.fb_units.proofs.Lists.{all_filter, all_from_index}
use Rattle.fb_model.proofs.Passages.{slots_short}
use Rattle.fb_detour.proofs.Words.{List, Some, ap, arith, if◌then◌else◌, inl, inr, length, nat_le, subst, suc, sym, true, zero, ℕ, ◌&&◌}
use Rattle.fb_detour.proofs.Words.{◌*◌, ◌+◌, ◌-◌, ◌/◌, ◌<◌, ◌∙◌, ◌≡◌, ◌≤◌, div-mul-le_self, and_parts, cases_Bool, leb-true}
use Rattle.fb_detour.proofs.Words.{sum_by-le-sum_by, le-div, slice_get-get_or, same_track, Place, Track, places, Shape, slots_at}
use Rattle.fb_detour.proofs.Words.{HasOwnPlaces, IsSound, IsAt, place_at, same_tracks, begin_from, Disk, depth_at, is_wanted, on_track}
use Rattle.fb_detour.proofs.Words.{Entry, block_end, catches, AreOnDisk, IsBlockOn, early_to, slots_within, stay_gain, stay}
use Rattle.fb_detour.proofs.Ceilings.{if-le-n}
use Rattle.fb_detour.proofs.Counted.{no_more}
use Rattle.fb_detour.proofs.Spread.{same_share}
use Rattle.fb_detour.proofs.Within.{from-le, its_track, place_of, sectors_pass}

pub div-rises : (a b n : ℕ) → a ≤ b → a / n ≤ b / n
div-rises a b zero le = omega arith
div-rises a b (suc n) le = le-div (a / suc n) b (suc n) (omega arith) (omega (arith, div-mul-le_self a (suc n), le))

is_at : (disk : Shape) (lbn : ℕ) → lbn < length (places disk) → IsAt disk lbn (place_at disk lbn)
unfolding place_at
is_at disk lbn inside = slice_get-get_or (places disk) lbn _ inside

module _ (disk : Disk) (track : Track) (from upto : ℕ) where
  -- so many sectors of a block count, all or none
  caught : Entry → ℕ
  caught e = if is_wanted e.state && catches disk (early_to track from upto) e.block then e.block.count else 0

  -- in which least length of a slot after the begin a sector begins to pass
  abbrev share : ℕ → ℕ
  share lbn = (begin_from disk.map (place_at disk.map lbn) from - from) / (disk.map.rotation / slots_at disk.map.zones track.cylinder)

  -- the sector is on the track and passes in time
  record Passes (lbn : ℕ) : Type 0 where
    on_disk : lbn < length (places disk.map)
    its : (place_at disk.map lbn).track ≡ track
    in_time : begin_from disk.map (place_at disk.map lbn) from + disk.map.rotation / slots_at disk.map.zones track.cylinder ≤ upto

  gain-caught : (e : Entry) → stay_gain disk (early_to track from upto) e ≤ e.block.weight * caught e
  unfolding caught
  gain-caught e = elim (cases_Bool (is_wanted e.state && catches disk (early_to track from upto) e.block)) [
    | inl yes' ↦ rw yes' (omega arith)
    | inr no' ↦ rw no' (omega arith)
  ]

  few : (e : Entry) → caught e ≤ e.block.count
  unfolding caught
  few e = if-le-n (is_wanted e.state && catches disk (early_to track from upto) e.block) e.block.count

  module _ (sound : IsSound disk.map) where
    in_passing : (e : Entry) → IsBlockOn disk.map e.block → catches disk (early_to track from upto) e.block ≡ true → (i : ℕ)
        → i < e.block.count → Passes (e.block.lbn + i)
    in_passing e fits caught' i inside =
        let both = and_parts (same_track track e.block.track) (nat_le (block_end disk.map e.block from) upto) caught' in
        let share = ap (λ (t : Track). disk.map.rotation / slots_at disk.map.zones t.cylinder) (same_tracks track e.block.track both.0) in
        record {
          on_disk = omega (arith, fits.on_disk, inside);
          its = its_track disk e.block i fits inside ∙ sym (same_tracks track e.block.track both.0);
          in_time = omega (
            arith,
            sectors_pass disk e.block from upto i sound fits inside
                (leb-true (block_end disk.map e.block from) upto both.1),
            share,
          );
        }

    each_passes : (e : Entry) → IsBlockOn disk.map e.block → (i : ℕ) → i < caught e → Passes (e.block.lbn + i)
    unfolding caught
    each_passes e fits i = elim (cases_Bool (is_wanted e.state && catches disk (early_to track from upto) e.block)) [
      | inl yes' ↦ rw yes' (in_passing e fits (and_parts (is_wanted e.state) (catches disk (early_to track from upto) e.block) yes').1 i)
      | inr no' ↦ rw no' (λ less. absurd (omega (arith, less)))
    ]

    own_share : HasOwnPlaces disk.map → (a b : ℕ) → Passes a → Passes b → share a ≡ share b → a ≡ b
    own_share own a b in_a in_b same =
        let place = place_at disk.map in
        let shares : Track → Type 0 = λ t.
        (begin_from disk.map (place a) from - from) / (disk.map.rotation / slots_at disk.map.zones t.cylinder)
        ≡ (begin_from disk.map (place b) from - from) / (disk.map.rotation / slots_at disk.map.zones t.cylinder) in
        let one = same_share disk (place a) (place b) from sound (in_a.its ∙ sym in_b.its) (place_of disk.map a sound in_a.on_disk).slot
        (place_of disk.map b sound in_b.on_disk).slot
        (subst shares (sym in_a.its) same) in
        own.once a b (place a) (is_at disk.map a in_a.on_disk) (is_at disk.map b in_b.on_disk ∙ ap (λ (p : Place). Some p) (sym one))

    in_share : (lbn : ℕ) → Passes lbn → share lbn < slots_within disk.map.rotation (slots_at disk.map.zones track.cylinder) (upto - from)
    in_share lbn is =
        let place = place_at disk.map lbn in
        let slots = slots_at disk.map.zones track.cylinder in
        let wait = begin_from disk.map place from - from in
        let some : 0 < slots = omega (
          arith,
          (place_of disk.map lbn sound is.on_disk).slot,
          ap (λ (t : Track). slots_at disk.map.zones t.cylinder) is.its,
        ) in
        let long : 0 < disk.map.rotation / slots = le-div 1 disk.map.rotation slots some
        (omega (arith, slots_short disk.map.rotation disk.map.zones track.cylinder sound.short_slots)) in
        omega (
          arith,
          le-div (wait / (disk.map.rotation / slots) + 1) (upto - from) (disk.map.rotation / slots) long
              (omega (arith, div-mul-le_self wait (disk.map.rotation / slots), is.in_time, from-le disk.map place from)),
        )

    -- a stay catches no more than the sectors that can pass, each in blocks of so much weight
    pub packing : (entries : List Entry) (depth : ℕ) → HasOwnPlaces disk.map → AreOnDisk disk entries
        → ((lbn : ℕ) → depth_at track lbn entries ≤ depth)
        → stay disk (early_to track from upto) entries
        ≤ depth * slots_within disk.map.rotation (slots_at disk.map.zones track.cylinder) (upto - from)
    unfolding stay
    packing entries depth own on_disk deep =
        let its = on_track track entries in
        let all = all_filter (λ e. (i : ℕ) → i < caught e → Passes (e.block.lbn + i)) (λ e. same_track track e.block.track) entries
        (all_from_index (λ e. (i : ℕ) → i < caught e → Passes (e.block.lbn + i)) entries (λ k e at. each_passes e (on_disk k e at))) in
        omega (
          arith,
          sum_by-le-sum_by (stay_gain disk (early_to track from upto)) (λ e. e.block.weight * caught e) its gain-caught,
          no_more caught share Passes (own_share own) few depth
              (slots_within disk.map.rotation (slots_at disk.map.zones track.cylinder) (upto - from)) its all in_share deep,
        )
