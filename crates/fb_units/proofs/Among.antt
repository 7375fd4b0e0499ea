-- The elements of a list, wherever they stand in it.
use Rattle.std.proofs.Common.{Bool, List, Some, [], ap, arith, inl, inr, length, map, refl, suc, sym, true, zero, ℕ, ◌++◌, ◌+◌, ◌-◌, ◌∙◌}
use Rattle.std.proofs.Common.{◌∷◌, ◌≡◌, ◌⊎◌}
use Rattle.std.specs.List.{list_any}
use Rattle.std.specs.List.Sorted.{IsPermutation}
use Rattle.std.specs.Prelude.{filter, slice_get}
use Rattle.std.proofs.lemmas.Bool.{cases_lt, or_cases, true≢false}
use Rattle.std.proofs.lemmas.List.Folds.{list_any_at}
use Rattle.std.proofs.lemmas.List.Sorted.{Contains-permutation}
use Rattle.std.proofs.lemmas.Option.{get_or_from_slice_get, none-some, same_Some, slice_get-get_or, slice_get_within}
use Rattle.fb_units.proofs.Filtered.{filter_from}
use Rattle.fb_units.proofs.Lists.{get_left, get_right}

-- x is one of these
abbrev pub Among : {A : Type 0} → List A → A → Type 0
Among xs x = (k : ℕ) × (slice_get xs k ≡ Some x)

pub among-tail : {A : Type 0} (x y : A) (xs : List A) → Among xs y → Among (x ∷ xs) y
among-tail x y xs one = (suc one.0, one.1)

pub among-right : {A : Type 0} (xs ys : List A) (x : A) → Among ys x → Among (xs ++ ys) x
among-right xs ys x one = (length xs + one.0, get_right xs ys one.0 (length xs + one.0) refl ∙ one.1)

pub among-append : {A : Type 0} (xs ys : List A) (x : A) → Among (xs ++ ys) x → Among xs x ⊎ Among ys x
among-append xs ys x one = elim (cases_lt one.0 (length xs)) [
  | inl front ↦ inl (one.0, sym (get_left xs ys one.0 front) ∙ one.1)
  | inr behind ↦ inr (one.0 - length xs, sym (get_right xs ys (one.0 - length xs) one.0 (omega arith)) ∙ one.1)
]

pub among-filtered : {A : Type 0} (test : A → Bool) (xs : List A) (x : A) → Among (filter test xs) x → Among xs x × (test x ≡ true)
among-filtered test xs x one = let found = filter_from test xs one.0 x one.1 in ((found.0, found.1), found.2)

pub among-mapped : {A B : Type 0} (f : A → B) (xs : List A) (y : B) → Among (map f xs) y → (x : A) × Among xs x × (f x ≡ y)
among-mapped f [] y one = absurd (none-some y one.1)
among-mapped f (x ∷ xs) y (zero, at) = (x, (0, refl), same_Some (f x) y at)
among-mapped f (x ∷ xs) y (suc k, at) = let found = among-mapped f xs y (k, at) in (found.0, among-tail x found.0 xs found.1, found.2)

pub among-any : {A : Type 0} (test : A → Bool) (xs : List A) (x : A) → Among xs x → test x ≡ true → list_any test xs ≡ true
among-any test xs x one e = list_any_at test xs one.0 x (slice_get_within xs one.0 x one.1)
    (ap test (get_or_from_slice_get xs one.0 x x one.1) ∙ e)

pub any-among : {A : Type 0} (test : A → Bool) (xs : List A) → list_any test xs ≡ true → (x : A) × Among xs x × (test x ≡ true)
any-among test [] h = absurd (true≢false (sym h))
any-among test (y ∷ xs) h = elim (or_cases (test y) (list_any test xs) h) [
  | inl here ↦ (y, (0, refl), here)
  | inr later ↦ let found = any-among test xs later in (found.0, among-tail y found.0 xs found.1, found.2)
]

-- a permutation has the same elements
pub permuted : {A : Type 0} (xs ys : List A) (x : A) → IsPermutation xs ys → Among xs x → Among ys x
permuted xs ys x h one =
    let found = Contains-permutation xs ys x h (one.0, slice_get_within xs one.0 x one.1, get_or_from_slice_get xs one.0 x x one.1) in
    (found.0, slice_get-get_or ys found.0 x found.1 ∙ ap Some found.2)
