-- Two slots of a track don't begin to pass within the least length of a slot.
use Rattle.fb_model.proofs.Passages.{slots_short}
use Rattle.fb_detour.proofs.Words.{ap, arith, inl, inr, sym, ℕ, ◌%◌, ◌*◌, ◌+◌, ◌-◌, ◌/◌, ◌<◌}
use Rattle.fb_detour.proofs.Words.{◌∙◌, ◌≡◌, ◌≤◌, ◌⊎◌, mod-lt, cases_lt, cases_order, div-add-mod', le-div, least_of}
use Rattle.fb_detour.proofs.Words.{least_unique, reaches_ahead, reaches_over, wait_least, wait, Place, Track, slot_begin, Shape, slots_at}
use Rattle.fb_detour.proofs.Words.{IsSound, in-turn, later-after, over, begin_from, Disk}

-- ---- numbers

-- the wait is the way ahead to the angle, or over the turn
wait-is : (r angle now : ℕ) → angle < r
    → ((now % r ≤ angle) × (wait r angle now ≡ angle - now % r)) ⊎ ((angle < now % r) × (wait r angle now ≡ r - now % r + angle))
wait-is r angle now below =
    let least = wait_least r angle now below in
    let rest : now % r < r = mod-lt now (omega arith) in
    elim (cases_lt angle (now % r)) [
      | inl behind ↦ inr (
        behind,
        least_unique r angle now (wait r angle now) (r - now % r + angle) least
            (least_of r angle now (r - now % r + angle) (omega arith) (reaches_over r now angle below behind)),
      )
      | inr ahead ↦ inl (
        ahead,
        least_unique r angle now (wait r angle now) (angle - now % r) least
            (least_of r angle now (angle - now % r) (omega arith) (reaches_ahead r now angle below ahead)),
      )
    ]

-- numbers a share apart lie in different shares
other-share : (share x y : ℕ) → 0 < share → x + share ≤ y → x / share ≡ y / share → ⊥
other-share share x y some apart same = omega (arith, le-div (x / share + 1) y share some (omega (arith, div-add-mod' x share)), same)

module _ (rotation n : ℕ) (some : 0 < n) (short : n ≤ rotation) where
  abbrev angle : ℕ → ℕ
  angle slot = slot_begin rotation n slot

  abbrev share : ℕ
  share = rotation / n

  some-share : 0 < share
  some-share = le-div 1 rotation n some (omega arith)

  next-apart : (slot : ℕ) → angle slot + share ≤ angle (slot + 1)
  next-apart slot = le-div (slot * rotation / n + rotation / n) ((slot + 1) * rotation) n some
      (omega (arith, div-add-mod' (slot * rotation) n, div-add-mod' rotation n))

  -- each slot is at least so long
  pub apart : (a b : ℕ) → a < b → angle a + share ≤ angle b
  apart a b less = omega (
    arith,
    next-apart a,
    later-after rotation n some short (a + 1) (b - (a + 1)),
    ap angle (let same : a + 1 + (b - (a + 1)) ≡ b = omega arith in same),
  )

  lesser-differs : (a b now : ℕ) → a < b → b < n → wait rotation (angle a) now / share ≡ wait rotation (angle b) now / share → ⊥
  lesser-differs a b now less inside same =
      let between = apart a b less in
      let around : angle b + share ≤ angle a + rotation = omega (arith, apart b (a + n) (omega arith), over rotation n some short a) in
      let rest : now % rotation < rotation = mod-lt now (omega arith) in
      let wait_a = wait rotation (angle a) now in
      let wait_b = wait rotation (angle b) now in
      elim (wait-is rotation (angle a) now (in-turn rotation n some short a (omega arith))) [
        | inl a_ahead ↦ elim (wait-is rotation (angle b) now (in-turn rotation n some short b inside)) [
          | inl b_ahead ↦ other-share share wait_a wait_b some-share (omega (arith, a_ahead.0, a_ahead.1, b_ahead.1)) same
          | inr b_over ↦ omega (arith, a_ahead.0, b_over.0)
        ]
        | inr a_over ↦ elim (wait-is rotation (angle b) now (in-turn rotation n some short b inside)) [
          | inl b_ahead ↦ other-share share wait_b wait_a some-share (omega (arith, a_over.1, b_ahead.0, b_ahead.1)) (sym same)
          | inr b_over ↦ other-share share wait_a wait_b some-share (omega (arith, a_over.1, b_over.1)) same
        ]
      ]

  same-slot : (a b now : ℕ) → a < n → b < n → wait rotation (angle a) now / share ≡ wait rotation (angle b) now / share → a ≡ b
  same-slot a b now in_a in_b same = elim (cases_order a b) [
    | inl one ↦ one
    | inr (inl less) ↦ absurd (lesser-differs a b now less in_b same)
    | inr (inr more) ↦ absurd (lesser-differs b a now more in_a (sym same))
  ]

-- ---- places

waited : (disk : Shape) (place : Place) (t : ℕ)
    → begin_from disk place t - t ≡ wait disk.rotation (slot_begin disk.rotation (slots_at disk.zones place.track.cylinder) place.slot) t
unfolding begin_from
waited disk place t = omega arith

on_track : (disk : Shape) (track : Track) (a b from : ℕ) → IsSound disk → a < slots_at disk.zones track.cylinder
    → b < slots_at disk.zones track.cylinder
    → (begin_from disk (record { track = track; slot = a }) from - from) / (disk.rotation / slots_at disk.zones track.cylinder)
    ≡ (begin_from disk (record { track = track; slot = b }) from - from) / (disk.rotation / slots_at disk.zones track.cylinder)
    → a ≡ b
on_track disk track a b from sound in_a in_b same =
    let n = slots_at disk.zones track.cylinder in
    let share : ℕ → ℕ = λ x. x / (disk.rotation / n) in
    same-slot disk.rotation n (omega arith) (slots_short disk.rotation disk.zones track.cylinder sound.short_slots) a b from in_a in_b
    (sym (ap share (waited disk (record { track = track; slot = a }) from))
    ∙ (same ∙ ap share (waited disk (record { track = track; slot = b }) from)))

-- two slots of a track that begin to pass within the same share are one
pub same_share : (disk : Disk) (a b : Place) (from : ℕ) → IsSound disk.map → a.track ≡ b.track
    → a.slot < slots_at disk.map.zones a.track.cylinder → b.slot < slots_at disk.map.zones b.track.cylinder
    → (begin_from disk.map a from - from) / (disk.map.rotation / slots_at disk.map.zones a.track.cylinder)
    ≡ (begin_from disk.map b from - from) / (disk.map.rotation / slots_at disk.map.zones a.track.cylinder)
    → a ≡ b
same_share disk a b from sound one in_a in_b same =
    let moved : (record { track = a.track; slot = b.slot }) ≡ b = ap (λ track. record { track = track; slot = b.slot }) one in
    let inside : b.slot < slots_at disk.map.zones a.track.cylinder =
    omega (arith, in_b, ap (λ (t : Track). slots_at disk.map.zones t.cylinder) one) in
    let slot : a.slot ≡ b.slot = on_track disk.map a.track a.slot b.slot from sound in_a inside
    (same ∙ ap (λ p. (begin_from disk.map p from - from) / (disk.map.rotation / slots_at disk.map.zones a.track.cylinder)) (sym moved)) in
    ap (λ s. record { track = a.track; slot = s }) slot ∙ moved
