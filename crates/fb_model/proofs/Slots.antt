-- Each angle lies in one slot.
use Rattle.fb_model.proofs.Words.{◌≡◌, ℕ, zero, suc, ◌+◌, ◌*◌, ◌<◌, ◌≤◌, arith, inl, inr, mul-le, cases_lt, slot_begin}
use Rattle.std.proofs.Common.{◌/◌}
use Rattle.std.proofs.lemmas.Nat.{le-div, div-add-mod'}
use Rattle.fb_model.specs.Laws.{IsInSlot, HasOneSlot}

module _ (rotation n : ℕ) (some : 0 < n) where
  ascends : (a b : ℕ) → a ≤ b → slot_begin rotation n a ≤ slot_begin rotation n b
  ascends a b h = le-div (a * rotation / n) (b * rotation) n some
      (omega (arith, div-add-mod' (a * rotation) n, mul-le a rotation b rotation h (omega arith)))

  -- no slot ends before it
  not_later : (angle a b : ℕ) → IsInSlot rotation n angle a → IsInSlot rotation n angle b → a ≤ b
  not_later angle a b h k = elim (cases_lt b a) [
    | inl less ↦ absurd (omega (arith, ascends (b + 1) a (omega arith), h.from, k.below))
    | inr more ↦ more
  ]

  some_slot : (angle k : ℕ) → k ≤ n → angle < slot_begin rotation n k → (slot : ℕ) × IsInSlot rotation n angle slot
  some_slot angle zero le below = absurd (omega (
    arith,
    div-add-mod' (0 * rotation) n,
    mul-le 1 (slot_begin rotation n 0) n (slot_begin rotation n 0) (omega arith) (omega arith),
  ))
  some_slot angle (suc k) le below = elim (cases_lt angle (slot_begin rotation n k)) [
    | inl before ↦ some_slot angle k (omega arith) before
    | inr here ↦ (k, record { inside = omega arith; from = here; below = let next : suc k ≡ k + 1 = omega arith in rw (← next) below })
  ]

pub one_slot : (rotation n angle : ℕ) → 0 < n → angle < rotation → HasOneSlot rotation n angle
one_slot rotation n angle some h =
    let whole : rotation ≤ slot_begin rotation n n = le-div rotation (n * rotation) n some (omega arith) in
    let found = some_slot rotation n some angle n (omega arith) (omega arith) in
    record {
      slot = found.0;
      lies = found.1;
      only = λ other lies. omega (
        arith,
        not_later rotation n some angle other found.0 lies found.1,
        not_later rotation n some angle found.0 other found.1 lies,
      );
    }
