-- A number is tested digit by digit.
use Rattle.std.proofs.Math.Nat.{mul-le-mul_right, pow-le-pow_right, pow-succ'}
use Rattle.fb_units.proofs.Digits.{digits_grow}
use Rattle.fb_report.proofs.Words.{◌≡◌, ℕ, ◌+◌, ◌-◌, ◌*◌, ◌^◌, ◌<◌, ◌≤◌, List, ◌∷◌, Bool, true, false, refl, ap, ◌∙◌, inl, inr, length}
use Rattle.fb_report.proofs.Words.{drop, arith, ◌&&◌, nat_lt, list_all, is_ascii_digit, cases_Bool, nat_tests, drop_all, and-false}
use Rattle.fb_report.proofs.Words.{and_parts, digits_after, lit<, []}

-- with these digits behind it the number is below 2^64
abbrev pub stays_below : ℕ → List ℕ → Bool
stays_below n digits = list_all is_ascii_digit digits && nat_lt (digits_after n digits) (2 ^ 64)

-- a byte that is no digit, or one with which the number passes 2^64
pub stays_below-not : (n byte : ℕ) (bytes : List ℕ) → (is_ascii_digit byte ≡ true → 2 ^ 64 ≤ 10 * n + (byte - 48))
    → stays_below n (byte ∷ bytes) ≡ false
stays_below-not n byte bytes past = elim (cases_Bool (is_ascii_digit byte)) [
  | inl digit ↦ let above : 2 ^ 64 ≤ digits_after n (byte ∷ bytes) = omega (arith, past digit, digits_grow (10 * n + (byte - 48)) bytes) in
      let not_below : nat_lt (digits_after n (byte ∷ bytes)) (2 ^ 64) ≡ false = grind (arith, nat_tests) in
      rw not_below (and-false (list_all is_ascii_digit (byte ∷ bytes)))
  | inr other ↦ rw other refl
]

-- no digit is left
pub stays_below_end : (n : ℕ) (text : List ℕ) (i : ℕ) → n < 2 ^ 64 → length text ≤ i → stays_below n (drop i text) ≡ true
stays_below_end n text i small past = ap (stays_below n) (drop_all i text past) ∙ grind (arith, nat_tests)

-- digits with these digits behind them
below : (n : ℕ) (digits : List ℕ) → list_all is_ascii_digit digits ≡ true → digits_after n digits < (n + 1) * 10 ^ length digits
below n [] all = omega arith
below n (byte ∷ bytes) all =
    let both = and_parts (is_ascii_digit byte) (list_all is_ascii_digit bytes) all in
    let digit : byte - 48 ≤ 9 = grind (arith, nat_tests, both.0) in
    let more : 10 * n + (byte - 48) + 1 ≤ 10 * (n + 1) = omega arith in
    omega (
      arith,
      below (10 * n + (byte - 48)) bytes both.1,
      mul-le-mul_right (10 ^ length bytes) more,
      ap (λ power. (n + 1) * power) (pow-succ' 10 (length bytes)),
    )

-- few digits need no count
pub few_stay_below : (text : List ℕ) → length text ≤ 19 → list_all is_ascii_digit text ≡ stays_below 0 text
few_stay_below text few = elim (cases_Bool (list_all is_ascii_digit text)) [
  | inl all ↦
      let most : 10 ^ length text ≤ 10 ^ 19 = pow-le-pow_right (lit< tt) few in
      let small : digits_after 0 text < 2 ^ 64 = omega (arith, below 0 text all, most) in
      grind (arith, nat_tests, all)
  | inr other ↦ rw other refl
]
