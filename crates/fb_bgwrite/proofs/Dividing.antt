-- Parts of a range are divided less often than the range.
use Rattle.std.proofs.Math.Nat.{pow-suc}
use Rattle.std.proofs.lemmas.Bool.{le-leb}
use Rattle.fb_bgwrite.proofs.Words.{ℕ, zero, suc, ◌≡◌, ◌+◌, ◌-◌, ◌/◌, ◌^◌, ◌<◌, ◌≤◌, ◌&&◌, true, false, min, max, inl, inr, refl, sym}
use Rattle.fb_bgwrite.proofs.Words.{subst, arith, cases_Bool, cases_lt, leb-true, nat_le, nat_lt, nat_tests, depth, digits_of, divides}
use Rattle.fb_bgwrite.proofs.Words.{powers_upto, Gap}

-- ---- digits

powers-rise : (n a b : ℕ) → a ≤ b → powers_upto n a ≤ powers_upto n b
unfolding powers_upto
powers-rise zero a b le = omega arith
powers-rise (suc n) a b le =
    let rest = powers-rise n a b le in
    elim (cases_Bool (nat_le (2 ^ n) a)) [
      | inl small ↦
          let larger : nat_le (2 ^ n) b ≡ true = le-leb (2 ^ n) b (omega (arith, leb-true (2 ^ n) a small, le)) in
          rw (small, larger) (omega (arith, rest))
      | inr large ↦ rw large (omega (arith, rest))
    ]

powers-double : (n a b : ℕ) → 0 < b → a + a ≤ b → powers_upto n a < powers_upto (suc n) b
unfolding powers_upto
powers-double zero a b some le = let one : nat_le 1 b ≡ true = le-leb 1 b some in rw one (omega arith)
powers-double (suc n) a b some le =
    let rest = powers-double n a b some le in
    elim (cases_Bool (nat_le (2 ^ n) a)) [
      | inl small ↦
          let twice : nat_le (2 ^ (suc n)) b ≡ true =
          le-leb (2 ^ (suc n)) b (omega (arith, leb-true (2 ^ n) a small, le, pow-suc 2 n)) in
          rw (small, twice) (omega (arith, rest))
      | inr large ↦ rw large (omega (arith, rest))
    ]

powers-longer : (m n a : ℕ) → m ≤ n → powers_upto m a ≤ powers_upto n a
unfolding powers_upto
powers-longer m zero a le =
    let none : m ≡ 0 = omega (arith, le) in subst (λ k. powers_upto k a ≤ powers_upto 0 a) (sym none) (omega arith)
powers-longer m (suc n) a le = elim (cases_lt m (suc n)) [
  | inl less ↦ omega (arith, powers-longer m n a (omega (arith, less)))
  | inr more ↦
      let all : m ≡ suc n = omega (arith, more, le) in subst (λ k. powers_upto k a ≤ powers_upto (suc n) a) (sym all) (omega arith)
]

digits-rise : (a b : ℕ) → a ≤ b → digits_of a ≤ digits_of b
unfolding digits_of
digits-rise a b le = omega (arith, powers-rise a a b le, powers-longer a b b le)

digits-halve : (a b : ℕ) → 0 < b → a + a ≤ b → digits_of a < digits_of b
unfolding digits_of
digits-halve a b some le = omega (arith, powers-double a a b some le, powers-longer (suc a) b b (omega (arith, some, le)))

-- ---- ranges

divides-narrow : (at from end f e : ℕ) → from ≤ f → e ≤ end → divides at f e ≤ divides at from end
unfolding divides
divides-narrow at from end f e after within = elim (cases_Bool (nat_lt f at && nat_lt at e)) [
  | inl inside ↦ let wider : nat_lt from at && nat_lt at end ≡ true = grind (arith, nat_tests) in rw (inside, wider) (omega arith)
  | inr outside ↦ rw outside (omega arith)
]

divides-inside : (at from end : ℕ) → from < at → at < end → divides at from end ≡ 1
unfolding divides
divides-inside at from end after within = let inside : nat_lt from at && nat_lt at end ≡ true = grind (arith, nat_tests) in rw inside refl

divides-begin : (at end : ℕ) → divides at at end ≡ 0
unfolding divides
divides-begin at end = let outside : nat_lt at at && nat_lt at end ≡ false = grind (arith, nat_tests) in rw outside refl

divides-end : (at from : ℕ) → divides at from at ≡ 0
unfolding divides
divides-end at from = let outside : nat_lt from at && nat_lt at at ≡ false = grind (arith, nat_tests) in rw outside refl

-- what is divided at a cylinder isn't divided there again
edge : (at other from end : ℕ) → from < at → at < end
    → (divides at from at + divides other from at + digits_of (at - from - 1)
    < divides at from end + divides other from end + digits_of (end - from - 1))
    × (divides at at end + divides other at end + digits_of (end - at - 1)
    < divides at from end + divides other from end + digits_of (end - from - 1))
edge at other from end after within =
    let whole = divides-inside at from end after within in (
      omega (
        arith,
        whole,
        divides-end at from,
        divides-narrow other from end from at (omega arith) (omega (arith, within)),
        digits-rise (at - from - 1) (end - from - 1) (omega (arith, within)),
      ),
      omega (
        arith,
        whole,
        divides-begin at end,
        divides-narrow other from end at end (omega (arith, after)) (omega arith),
        digits-rise (end - at - 1) (end - from - 1) (omega (arith, after)),
      ),
    )

module _ (gap : Gap) (from end : ℕ) where
  abbrev low : ℕ
  low = min gap.source.cylinder gap.target.cylinder

  abbrev high : ℕ
  high = max gap.source.cylinder gap.target.cylinder + 1

  pub narrower : (f e : ℕ) → from ≤ f → e ≤ end → depth gap f e ≤ depth gap from end
  unfolding depth
  narrower f e after within = omega (
    arith,
    divides-narrow low from end f e after within,
    divides-narrow high from end f e after within,
    digits-rise (e - f - 1) (end - from - 1) (omega (arith, after, within)),
  )

  abbrev pub AreShallower : ℕ → Type 0
  AreShallower at = (depth gap from at < depth gap from end) × (depth gap at end < depth gap from end)

  pub at_low : (at : ℕ) → from < at → at < end → at ≡ low → AreShallower at
  unfolding depth
  at_low at after within same =
      let both = edge low high from end (omega (arith, after, same)) (omega (arith, within, same)) in
      subst AreShallower (sym same) both

  pub at_high : (at : ℕ) → from < at → at < end → at ≡ high → AreShallower at
  unfolding depth
  at_high at after within same =
      let both = edge high low from end (omega (arith, after, same)) (omega (arith, within, same)) in
      subst AreShallower (sym same) (omega (arith, both.0), omega (arith, both.1))

  pub in_the_middle : (at : ℕ) → from + 1 < end → at ≡ from + (end - from) / 2 → AreShallower at
  unfolding depth
  in_the_middle at some same = (
    omega (
      arith,
      divides-narrow low from end from at (omega arith) (omega (arith, same, some)),
      divides-narrow high from end from at (omega arith) (omega (arith, same, some)),
      digits-halve (at - from - 1) (end - from - 1) (omega (arith, some)) (omega (arith, same, some)),
    ),
    omega (
      arith,
      divides-narrow low from end at end (omega (arith, same)) (omega arith),
      divides-narrow high from end at end (omega (arith, same)) (omega arith),
      digits-halve (end - at - 1) (end - from - 1) (omega (arith, some)) (omega (arith, same, some)),
    ),
  )
