-- What passes once a rotation comes round once a rotation.
use Rattle.fb_detour.proofs.Words.{ap, arith, inl, inr, sym, ℕ, ◌%◌, ◌*◌, ◌+◌, ◌-◌, ◌/◌, ◌<◌, ◌∙◌, ◌≡◌, ◌≤◌, add-mul-mod_self_right, mod-lt}
use Rattle.fb_detour.proofs.Words.{mul-le-mul_right, cases_lt, div-add-mod', wait_least, Sweep, wait-rest, begin_of, end_of}

-- from an instant at an angle to a later one at it, at least a rotation passes
round-later : (r x y : ℕ) → x % r ≡ y % r → x < y → x + r ≤ y
round-later r x y same less =
    let a = div-add-mod' x r in
    let b = div-add-mod' y r in
    elim (cases_lt (x / r) (y / r)) [
      | inl l ↦ let next : x / r + 1 ≤ y / r = omega (arith, l) in let most = mul-le-mul_right r next in omega (arith, most, a, b, same)
      | inr m ↦ absurd (let most : y / r * r ≤ x / r * r = mul-le-mul_right r m in omega (arith, most, a, b, same, less))
    ]

module _ (r : ℕ) (sweep : Sweep) (some : 0 < r) where
  begins_at : (t : ℕ) → begin_of r sweep t % r ≡ sweep.begin % r
  begins_at t =
      let least = wait_least r (sweep.begin % r) t (mod-lt sweep.begin some) in
      ap (λ w. (t + w) % r) (sym (wait-rest r sweep.begin t)) ∙ least.reaches

  -- from behind its begin of one turn it passes a turn later
  turn-later : (now from turns : ℕ) → begin_of r sweep now + turns * r < from → end_of r sweep now + turns * r + r ≤ end_of r sweep from
  turn-later now from turns behind =
      let x = begin_of r sweep now + turns * r in
      let same : x % r ≡ begin_of r sweep from % r =
      add-mul-mod_self_right (begin_of r sweep now) turns r ∙ (begins_at now ∙ sym (begins_at from)) in
      omega (arith, round-later r x (begin_of r sweep from) same (omega (arith, behind)))

  -- the last instant from which it passes whole by the deadline
  pub last_instant : (now from end deadline : ℕ) → end ≡ end_of r sweep now → end ≤ deadline → end_of r sweep from ≤ deadline
      → from ≤ begin_of r sweep now + (deadline - end) / r * r
  last_instant now from end deadline e le caught =
      let turns = (deadline - end) / r in
      let whole = div-add-mod' (deadline - end) r in
      let rest = mod-lt (deadline - end) some in
      elim (cases_lt (begin_of r sweep now + turns * r) from) [
        | inl behind ↦ absurd (omega (arith, turn-later now from turns behind, whole, rest, e, le, caught))
        | inr more ↦ more
      ]
