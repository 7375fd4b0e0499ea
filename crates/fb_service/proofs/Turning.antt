-- The slots of a track as the platter turns on: slot n + s is slot s one rotation later.
use Rattle.fb_service.proofs.Words.{◌≡◌, ℕ, zero, suc, ◌+◌, ◌-◌, ◌*◌, ◌%◌, ◌<◌, ◌≤◌, ap, ◌∙◌, inl, inr, arith, cases_lt, wait, wait_least}
use Rattle.fb_service.proofs.Words.{least_unique, least_of, slot_begin}
use Rattle.std.proofs.Common.{◌/◌, ◌⊎◌}
use Rattle.std.proofs.Math.Nat.{add-mul-div_right, mod-eq_of_lt, add-mod_left}
use Rattle.std.proofs.lemmas.Nat.{le-div, div-add-mod', div-mul-add}
use Rattle.fb_units.proofs.Waits.{rest_is}

module _ (rotation n : ℕ) (some : 0 < n) (short : n ≤ rotation) where
  abbrev angle : ℕ → ℕ
  angle slot = slot_begin rotation n slot

  pub over : (slot : ℕ) → angle (slot + n) ≡ angle slot + rotation
  over slot = ap (λ x. x / n) (turn slot) ∙ add-mul-div_right (slot * rotation) rotation some
    where
      turn : (slot : ℕ) → (slot + n) * rotation ≡ slot * rotation + rotation * n
      turn slot = grind arith

  pub next-after : (slot : ℕ) → angle slot < angle (slot + 1)
  next-after slot =
      omega (arith, le-div (slot * rotation / n + 1) ((slot + 1) * rotation) n some (omega (arith, div-add-mod' (slot * rotation) n)))

  pub later-after : (slot i : ℕ) → angle slot + i ≤ angle (slot + i)
  later-after slot zero = omega (arith, ap angle (let same : slot + 0 ≡ slot = omega arith in same))
  later-after slot (suc i) =
      omega (arith, later-after slot i, next-after (slot + i), ap angle (let same : slot + suc i ≡ slot + i + 1 = omega arith in same))

  first-angle : angle 0 ≡ 0
  first-angle = ap (λ x. x / n) (let none : 0 * rotation ≡ 0 * n + 0 = omega arith in none) ∙ div-mul-add 0 n 0 some

  pub in-turn : (slot : ℕ) → slot < n → angle slot < rotation
  in-turn slot h =
      omega (arith, over 0, first-angle, later-after slot (n - slot), ap angle (let end : slot + (n - slot) ≡ 0 + n = omega arith in end))

  pub within-turn : (slot i : ℕ) → i ≤ n → angle (slot + i) ≤ angle slot + rotation
  within-turn slot i h =
      omega (arith, over slot, later-after (slot + i) (n - i), ap angle (let back : slot + i + (n - i) ≡ slot + n = omega arith in back))

  -- a slot that is counted on past the end of the turn, or not past it
  pub slot-is : (slot i : ℕ) → slot < n → i < n
      → (((slot + i) % n ≡ slot + i) × (slot + i < n)) ⊎ ((((slot + i) % n) + n ≡ slot + i) × (n ≤ slot + i))
  slot-is slot i h less = elim (cases_lt (slot + i) n) [
    | inl inside ↦ inl (mod-eq_of_lt inside, inside)
    | inr past ↦ let small : slot + i - n < n = omega arith in
        let split : slot + i ≡ n + (slot + i - n) = omega arith in
        let value : (slot + i) % n ≡ slot + i - n = ap (λ x. x % n) split ∙ (add-mod_left n (slot + i - n) ∙ mod-eq_of_lt small) in
        inr (omega arith, past)
  ]

  -- a slot takes as long to pass one rotation later
  pub as-long : (slot i : ℕ) → slot < n → i < n
      → angle ((slot + i) % n + 1) - angle ((slot + i) % n) ≡ angle (slot + i + 1) - angle (slot + i)
  as-long slot i h less = elim (slot-is slot i h less) [
    | inl inside ↦ ap (λ x. angle (x + 1) - angle x) inside.0
    | inr past ↦ omega (
      arith,
      over ((slot + i) % n),
      over ((slot + i) % n + 1),
      ap angle past.0,
      ap (λ x. angle (x + 1)) past.0,
      ap angle (next_one ((slot + i) % n)),
    )
  ]
    where
      next_one : (slot : ℕ) → slot + 1 + n ≡ slot + n + 1
      next_one slot = omega arith

  -- from where a slot begins, the i-th slot behind it begins when the platter has turned so far
  pub begins-behind : (slot i t : ℕ) → slot < n → i < n → t % rotation ≡ angle slot
      → wait rotation (angle ((slot + i) % n)) t ≡ angle (slot + i) - angle slot
  begins-behind slot i t h less here =
      let around : angle (slot + i) < angle slot + rotation =
      omega (arith, over slot, later-after (slot + i) (n - i), ap angle (let back : slot + i + (n - i) ≡ slot + n = omega arith in back)) in
      let behind : angle slot ≤ angle (slot + i) = omega (arith, later-after slot i) in
      let below : angle ((slot + i) % n) < rotation = elim (slot-is slot i h less) [
        | inl inside ↦ in-turn ((slot + i) % n) (omega arith)
        | inr past ↦ in-turn ((slot + i) % n) (omega arith)
      ] in
      let parts : t ≡ t / rotation * rotation + angle slot = omega (arith, div-add-mod' t rotation) in
      let reaches : (t + (angle (slot + i) - angle slot)) % rotation ≡ angle ((slot + i) % n) = elim (slot-is slot i h less) [
        | inl inside ↦ rest_is rotation (t / rotation) (angle ((slot + i) % n)) (t
            + (angle (slot + i) - angle slot)) below (omega (arith, ap angle inside.0))
        | inr past ↦ rest_is rotation (t / rotation + 1) (angle ((slot + i) % n)) (t
            + (angle (slot + i) - angle slot)) below (grind (arith, ap angle past.0, over ((slot + i) % n), parts, behind))
      ] in
      least_unique rotation (angle ((slot + i) % n)) t (wait rotation (angle ((slot + i) % n)) t) (angle (slot + i) - angle slot)
      (wait_least rotation (angle ((slot + i) % n)) t below)
      (least_of rotation (angle ((slot + i) % n)) t (angle (slot + i) - angle slot) (omega arith) reaches)
