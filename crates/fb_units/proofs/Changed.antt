-- Lists with one more element, or with one replaced.
use Rattle.std.proofs.Common.{◌≡◌, ℕ, zero, suc, ◌<◌, Bool, true, false, ◌||◌, ◌==◌, nat_eq, List, [], ◌∷◌, ◌++◌, length, get_or, set}
use Rattle.std.proofs.Common.{map, if◌then◌else◌, Some, slice_get, ◌⊎◌, inl, inr, refl, sym, ap, ◌∙◌, arith}
use Rattle.std.proofs.Math.Bool.{or-false, or-true}
use Rattle.std.proofs.lemmas.Bool.{cases_Bool}
use Rattle.std.proofs.lemmas.Bool.Decides.{nat_tests}
use Rattle.std.proofs.lemmas.Grind.{get_or-set_at}
use Rattle.std.proofs.lemmas.List.{get_or_default, get_or-set_other}

-- a function has the same values at all indexes after one more element, if that has the value of the default
pub get_or-push_like : {X Y : Type 0} (f : X → Y) (xs : List X) (x d : X) (i : ℕ) → f x ≡ f d
    → f (get_or (xs ++ x ∷ []) i d) ≡ f (get_or xs i d)
get_or-push_like f [] x d zero same = same
get_or-push_like f [] x d (suc i) same = refl
get_or-push_like f (y ∷ xs) x d zero same = refl
get_or-push_like f (y ∷ xs) x d (suc i) same = get_or-push_like f xs x d i same

-- a function has the same values at all indexes after an element is replaced by one with the same value
pub get_or-set_like : {X Y : Type 0} (f : X → Y) (xs : List X) (y d : X) (i j : ℕ) → f y ≡ f (get_or xs i d)
    → f (get_or (set xs i y) j d) ≡ f (get_or xs j d)
get_or-set_like f [] y d i j same = refl
get_or-set_like f (x ∷ xs) y d zero zero same = same
get_or-set_like f (x ∷ xs) y d zero (suc j) same = refl
get_or-set_like f (x ∷ xs) y d (suc i) zero same = refl
get_or-set_like f (x ∷ xs) y d (suc i) (suc j) same = get_or-set_like f xs y d i j same

same_test : (i j : ℕ) → nat_eq (suc i) (suc j) ≡ nat_eq i j
same_test i j = elim (cases_Bool (nat_eq i j)) [
  | inl same ↦ rw same (grind (arith, nat_tests))
  | inr other ↦ rw other (grind (arith, nat_tests))
]

-- a test holds where it held before, and at the index of an element that is replaced by one that passes
pub get_or-set_marked : {X : Type 0} (f : X → Bool) (xs : List X) (y d : X) (i j : ℕ) → i < length xs → f y ≡ true
    → f (get_or (set xs i y) j d) ≡ (f (get_or xs j d) || nat_eq i j)
get_or-set_marked f [] y d i j inside marked = absurd (omega arith)
get_or-set_marked f (x ∷ xs) y d zero zero inside marked = marked ∙ sym (or-true (f x))
get_or-set_marked f (x ∷ xs) y d zero (suc j) inside marked = let other : nat_eq 0 (suc j) ≡ false = grind (arith, nat_tests) in
    rw other (sym (or-false (f (get_or xs j d))))
get_or-set_marked f (x ∷ xs) y d (suc i) zero inside marked = let other : nat_eq (suc i) 0 ≡ false = grind (arith, nat_tests) in
    rw other (sym (or-false (f x)))
get_or-set_marked f (x ∷ xs) y d (suc i) (suc j) inside marked = rw (same_test i j) (get_or-set_marked f xs y d i j (omega arith) marked)

pub map-set_like : {X Y : Type 0} (f : X → Y) (xs : List X) (y d : X) (i : ℕ) → f y ≡ f (get_or xs i d) → map f (set xs i y) ≡ map f xs
map-set_like f [] y d i same = refl
map-set_like f (x ∷ xs) y d zero same = ap (λ z. z ∷ map f xs) same
map-set_like f (x ∷ xs) y d (suc i) same = ap (λ zs. f x ∷ zs) (map-set_like f xs y d i same)

pub get_or-push_holds : {X : Type 0} (P : X → Type 0) (xs : List X) (x d : X) → ((i : ℕ) → P (get_or xs i d)) → P x → (i : ℕ)
    → P (get_or (xs ++ x ∷ []) i d)
get_or-push_holds P [] x d all h zero = h
get_or-push_holds P [] x d all h (suc i) = all zero
get_or-push_holds P (y ∷ xs) x d all h zero = all zero
get_or-push_holds P (y ∷ xs) x d all h (suc i) = get_or-push_holds P xs x d (λ j. all (suc j)) h i

-- an element of a list with one more at its end is an old one, or the last
pub old_or_last : {X : Type 0} (xs : List X) (y x : X) (i : ℕ) → slice_get (xs ++ y ∷ []) i ≡ Some x
    → ((i < length xs) × (slice_get xs i ≡ Some x)) ⊎ ((i ≡ length xs) × (x ≡ y))
old_or_last [] y x zero h = inr (refl, grind arith)
old_or_last [] y x (suc i) h = absurd (grind arith)
old_or_last (z ∷ zs) y x zero h = inl (omega arith, h)
old_or_last (z ∷ zs) y x (suc i) h = elim (old_or_last zs y x i h) [
  | inl k ↦ inl (omega (arith, k.0), k.1)
  | inr k ↦ inr (omega (arith, k.0), k.1)
]

-- ---- lists that read as an old one at each index, where what lies behind their end reads as a blank

-- with a blank more
pub one_blank_more : {X : Type 0} (old xs new : List X) (x blank : X) → ((k : ℕ) → get_or xs k blank ≡ get_or old k blank)
    → new ≡ xs ++ x ∷ [] → x ≡ blank → (k : ℕ) → get_or new k blank ≡ get_or old k blank
one_blank_more old xs new x blank same more is k =
    ap (λ ys. get_or ys k blank) more ∙ (get_or-push_like (λ y. y) xs x blank k is ∙ same k)

-- with one of them changed
pub one_changed : {X : Type 0} (old xs : List X) (n : ℕ) (was new blank : X) (change : X → X)
    → ((k : ℕ) → get_or xs k blank ≡ get_or old k blank) → n < length xs → was ≡ get_or xs n was → new ≡ change was
    → (k : ℕ) → get_or (set xs n new) k blank ≡ (if n == k then change (get_or old k blank) else get_or old k blank)
one_changed old xs n was new blank change same within at is k = elim (cases_Bool (n == k)) [
  | inl here ↦
      let there : k ≡ n = grind (arith, nat_tests) in
      rw here (get_or-set_at xs n k new blank there within
      ∙ (is ∙ ap change (at ∙ (get_or_default xs n was blank within ∙ (same n ∙ ap (λ i. get_or old i blank) (sym there))))))
  | inr other ↦ rw other (get_or-set_other xs n k new blank (grind (arith, nat_tests)) ∙ same k)
]
