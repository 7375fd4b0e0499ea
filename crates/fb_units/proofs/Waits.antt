-- A wait of less than a rotation that reaches the angle is the least, and none comes earlier from later on.
use Rattle.std.proofs.Common.{◌≡◌, ℕ, ◌+◌, ◌-◌, ◌*◌, ◌/◌, ◌%◌, ◌<◌, ◌≤◌, inl, inr, arith, ap, ◌∙◌}
use Rattle.std.proofs.Math.Nat.{mod-add-mod, mod-lt}
use Rattle.std.proofs.lemmas.Nat.{div-add-mod', mul-le, mod-mul-add}
use Rattle.std.proofs.lemmas.Bool.{cases_lt}
use Rattle.fb_units.specs.Wait.{wait, IsLeastWait}

-- two different numbers with the same remainder by r differ by at least r
same_multiple : (r p q a v w : ℕ) → v < w → w < v + r → p * r + a ≡ v → q * r + a ≡ w → ⊥
same_multiple r p q a v w lt near e f = elim (cases_lt p q) [
  | inl k ↦ omega (arith, mul-le (p + 1) r q r (omega arith) (omega arith))
  | inr k ↦ omega (arith, mul-le q r p r (omega arith) (omega arith))
]

-- no shorter wait reaches the angle
not_before : (r angle now w v : ℕ) → w < r → (now + w) % r ≡ angle → (now + v) % r ≡ angle → w ≤ v
not_before r angle now w v short e f = elim (cases_lt v w) [
  | inl k ↦ absurd (same_multiple r ((now + v) / r) ((now + w) / r) angle (now + v) (now + w) (omega arith) (omega arith)
      (omega (arith, div-add-mod' (now + v) r)) (omega (arith, div-add-mod' (now + w) r)))
  | inr k ↦ k
]

pub least_of : (r angle now w : ℕ) → w < r → (now + w) % r ≡ angle → IsLeastWait r angle now w
least_of r angle now w short e = record {
  reaches = e;
  least = λ v f. not_before r angle now w v short e f;
}

below : (now r : ℕ) → 0 < r → now % r < r
below now r h = omega arith

-- the remainder of a multiple of r and a number below r is that number
pub rest_is : (r q a v : ℕ) → a < r → v ≡ q * r + a → v % r ≡ a
rest_is r q a v h e = rw e (mod-mul-add q r a h)

-- the way forward from the present angle reaches a later angle of this turn, or an earlier one of the next turn
pub reaches_ahead : (r now angle : ℕ) → angle < r → now % r ≤ angle → (now + (angle - now % r)) % r ≡ angle
reaches_ahead r now angle h le = rest_is r (now / r) angle (now + (angle - now % r)) h (omega (arith, div-add-mod' now r))

pub reaches_over : (r now angle : ℕ) → angle < r → angle < now % r → (now + (r - now % r + angle)) % r ≡ angle
reaches_over r now angle h lt =
    rest_is r (now / r + 1) angle (now + (r - now % r + angle)) h (grind (arith, div-add-mod' now r, below now r (omega arith)))

-- the wait by its definition is the least
pub wait_least : (r angle now : ℕ) → angle < r → IsLeastWait r angle now (wait r angle now)
wait_least r angle now h = elim (cases_lt angle (now % r)) [
  | inl k ↦ let w : wait r angle now ≡ r - now % r + angle = rest_is r 0 (r - now % r + angle) (angle
      + (r - now % r)) (omega (arith, below now r (omega arith))) (omega (arith, below now r (omega arith))) in
      rw w (least_of r angle now (r - now % r + angle) (omega (arith, below now r (omega arith))) (reaches_over r now angle h k))
  | inr k ↦ let w : wait r angle now ≡ angle - now % r =
      rest_is r 1 (angle - now % r) (angle + (r - now % r)) (omega arith) (omega (arith, below now r (omega arith))) in
      rw w (least_of r angle now (angle - now % r) (omega arith) (reaches_ahead r now angle h k))
]

-- two least waits for the same angle are equal
pub least_unique : (r angle now v w : ℕ) → IsLeastWait r angle now v → IsLeastWait r angle now w → v ≡ w
least_unique r angle now v w a b = omega (arith, a.least w b.reaches, b.least v a.reaches)

-- the wait for an angle is the wait for its rest
pub wait-rest : (r angle t : ℕ) → wait r (angle % r) t ≡ wait r angle t
wait-rest r angle t = mod-add-mod angle r (r - t % r)

-- the next time at an angle doesn't come earlier from later on
pub next-le : (r angle t u : ℕ) → 0 < r → t ≤ u → t + wait r angle t ≤ u + wait r angle u
next-le r angle t u some le =
    let small = mod-lt angle some in
    let a = wait_least r (angle % r) t small in
    let b = wait_least r (angle % r) u small in
    let n = u + wait r (angle % r) u in
    let back : t + (n - t) ≡ n = omega arith in
    let least : wait r (angle % r) t ≤ n - t = a.least (n - t) (ap (λ x. x % r) back ∙ b.reaches) in
    omega (arith, wait-rest r angle t, wait-rest r angle u)
