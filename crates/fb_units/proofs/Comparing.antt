-- Tests of numbers, truth values, and numbers that rise.
use Rattle.std.proofs.Common.{◌≡◌, ℕ, zero, suc, ◌+◌, ◌<◌, ◌≤◌, List, [], ◌∷◌, ◌++◌, Bool, true, false, inl, inr, refl, subst, arith}
use Rattle.std.specs.Prelude.{◌==◌, if◌then◌else◌, nat_le}
use Rattle.std.specs.List.{AllByRecursion}
use Rattle.std.proofs.lemmas.Bool.{cases_Bool, cases_lt, eqb-true}
use Rattle.std.proofs.lemmas.Bool.Decides.{nat_tests}
use Rattle.fb_units.specs.Rising.{IsRising}
use Rattle.fb_units.proofs.Lists.{all_push}

pub same_number : (a b : ℕ) → a ≡ b → (a == b) ≡ true
same_number a b h = grind (arith, nat_tests)

pub less_differs : (a b : ℕ) → a < b → (a == b) ≡ false
less_differs a b less = grind (arith, nat_tests)

pub more_differs : (a b : ℕ) → b < a → (a == b) ≡ false
more_differs a b less = grind (arith, nat_tests)

pub some_number : (n : ℕ) → (n == 0) ≡ false → 0 < n
some_number n some = grind (arith, nat_tests)

pub is_after : (x t : ℕ) → nat_le x t ≡ false → t < x
is_after x t after = grind (arith, nat_tests)

pub if_le : (a b : Bool) (n : ℕ) → (a ≡ true → b ≡ true) → (if a then n else 0) ≤ (if b then n else 0)
if_le true b n h = rw (h refl) (omega arith)
if_le false b n h = omega arith

pub zero_add : (a : ℕ) → 0 + a ≡ a
zero_add a = omega arith

pub add_zero : (a : ℕ) → a + 0 ≡ a
add_zero a = omega arith

pub add_one : (a i : ℕ) → a + (i + 1) ≡ a + 1 + i
add_one a i = omega arith

-- what is by an instant is by a later one
pub by_later : (s t x : ℕ) → s ≤ t → nat_le x s ≡ true → nat_le x t ≡ true
by_later s t x h by = grind (arith, nat_tests)

pub is_by : (x t : ℕ) → nat_le x t ≡ true → x ≤ t
is_by x t by = grind (arith, nat_tests)

pub by_is : (x t : ℕ) → x ≤ t → nat_le x t ≡ true
by_is x t h = grind (arith, nat_tests)

pub after_is : (x t : ℕ) → t < x → nat_le x t ≡ false
after_is x t h = grind (arith, nat_tests)

pub other_number : (a b : ℕ) → (a == b) ≡ false → a ≡ b → ⊥
other_number a b h e = grind (arith, nat_tests)

-- what holds of one number and of each other holds of each
pub one_or_other : (P : ℕ → Type 0) (k n : ℕ) → P k → ((k == n) ≡ false → P n) → P n
one_or_other P k n own others = elim (cases_Bool (k == n)) [ inl same ↦ subst P (eqb-true k n same) own | inr other ↦ others other ]

-- step by step from one number to a later one
pub step_to : (P : ℕ → Type 0) (n m : ℕ) → n ≤ m → ((k : ℕ) → n ≤ k → k < m → P k → P (k + 1)) → P n → P m
step_to P n zero le step h = subst P (let e : n ≡ 0 = omega arith in e) h
step_to P n (suc m) le step h = elim (cases_lt m n) [
  | inl less ↦ subst P (let e : n ≡ suc m = omega arith in e) h
  | inr more ↦ subst P (let e : m + 1 ≡ suc m = omega arith in
      e) (step m more (omega arith) (step_to P n m more (λ k from to. step k from (omega arith)) h))
]

pub rising_push : (xs : List ℕ) (x : ℕ) → IsRising xs → AllByRecursion (λ y. y ≤ x) xs → IsRising (xs ++ x ∷ [])
rising_push [] x rising all = (tt, tt)
rising_push (y ∷ xs) x rising all = (all_push (λ later. y ≤ later) xs x rising.0 all.0, rising_push xs x rising.1 all.1)
