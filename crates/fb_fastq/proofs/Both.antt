-- The first of least key of two lists, one behind the other.
use Rattle.fb_fastq.proofs.Words.{◌≡◌, ◌<◌, ◌≤◌, ℕ, List, [], ◌∷◌, ◌++◌, Option, Some, None, true, false, if◌then◌else◌, refl, ap, ◌∙◌, arith}
use Rattle.fb_fastq.proofs.Words.{length, nat_le, nat_tests, cases_Bool, inl, inr, Request, better, first_least}

module _ (key : Request → ℕ) where
  -- the first of both, given the first of each
  abbrev first_of : List Request → List Request → Option (Request × List Request) → Option (Request × List Request)
      → Option (Request × List Request)
  first_of xs ys None None = None
  first_of xs ys None (Some b) = Some (b.0, xs ++ b.1)
  first_of xs ys (Some a) None = Some (a.0, a.1 ++ ys)
  first_of xs ys (Some a) (Some b) = if nat_le (key a.0) (key b.0) then Some (a.0, a.1 ++ ys) else Some (b.0, xs ++ b.1)

  none_before : (ys : List Request) (b : Option (Request × List Request)) → b ≡ first_of [] ys None b
  none_before ys None = refl
  none_before ys (Some b) = refl

  passes : (a b c : ℕ) → nat_le a b ≡ true → nat_le b c ≡ true → nat_le a c ≡ true
  passes a b c h i = grind (arith, nat_tests)

  falls : (a b c : ℕ) → nat_le a b ≡ false → nat_le b c ≡ false → nat_le a c ≡ false
  falls a b c h i = grind (arith, nat_tests)

  one_before : (x : Request) (xs ys : List Request) (a b : Option (Request × List Request))
      → better key x (xs ++ ys) (first_of xs ys a b) ≡ first_of (x ∷ xs) ys (better key x xs a) b
  one_before x xs ys None None = refl
  one_before x xs ys None (Some b) = refl
  one_before x xs ys (Some a) None = elim (cases_Bool (nat_le (key x) (key a.0))) [ inl t ↦ rw t refl | inr f ↦ rw f refl ]
  one_before x xs ys (Some a) (Some b) = elim (cases_Bool (nat_le (key x) (key a.0))) [
    | inl t ↦ elim (cases_Bool (nat_le (key a.0) (key b.0))) [
      | inl u ↦ let v = passes (key x) (key a.0) (key b.0) t u in rw u (rw (t, v) refl)
      | inr g ↦ rw g (rw t refl)
    ]
    | inr f ↦ elim (cases_Bool (nat_le (key a.0) (key b.0))) [
      | inl u ↦ rw u (rw f (rw u refl))
      | inr g ↦ let v = falls (key x) (key a.0) (key b.0) f g in rw g (rw (f, v) (rw g refl))
    ]
  ]

  first_of_lists : (xs ys : List Request) → first_least key (xs ++ ys) ≡ first_of xs ys (first_least key xs) (first_least key ys)
  first_of_lists [] ys = none_before ys (first_least key ys)
  first_of_lists (x ∷ xs) ys = ap (better key x (xs ++ ys)) (first_of_lists xs ys)
      ∙ one_before x xs ys (first_least key xs) (first_least key ys)

  module _ (xs ys : List Request) (b : Request) (others : List Request) (is : first_least key ys ≡ Some (b, others)) where
    -- it is that of the first list, of the second, or of the second alone
    pub first_left : (a : Request) (left : List Request) → first_least key xs ≡ Some (a, left) → key a ≤ key b
        → first_least key (xs ++ ys) ≡ Some (a, left ++ ys)
    first_left a left e le = let t : nat_le (key a) (key b) ≡ true = grind (arith, nat_tests) in
        first_of_lists xs ys ∙ rw (e, is) (rw t refl)

    pub first_right : (a : Request) (left : List Request) → first_least key xs ≡ Some (a, left) → key b < key a
        → first_least key (xs ++ ys) ≡ Some (b, xs ++ others)
    first_right a left e lt = let t : nat_le (key a) (key b) ≡ false = grind (arith, nat_tests) in
        first_of_lists xs ys ∙ rw (e, is) (rw t refl)

  -- where there are any, one is the first
  pub some_first : (xs : List Request) → 0 < length xs → (b : Request × List Request) × (first_least key xs ≡ Some b)
  some_first [] some = absurd (omega (arith, some))
  some_first (x ∷ xs) some = of (first_least key xs)
    where
      of : (o : Option (Request × List Request)) → (b : Request × List Request) × (better key x xs o ≡ Some b)
      of None = ((x, xs), refl)
      of (Some a) = elim (cases_Bool (nat_le (key x) (key a.0))) [
        | inl t ↦ ((x, xs), rw t refl)
        | inr f ↦ ((a.0, x ∷ a.1), rw f refl)
      ]
