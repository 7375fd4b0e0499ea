-- What a search of a list finds.
use Rattle.std.proofs.Common.{Bool, List, None, Some, [], ap, arith, drop, false, inl, inr, length, not, refl, subst, suc, sym, take, true}
use Rattle.std.proofs.Common.{zero, ℕ, ◌<◌, ◌∙◌, ◌∷◌, ◌≡◌, ◌≤◌}
use Rattle.std.specs.List.{AllByRecursion, list_any, position_or_len}
use Rattle.std.specs.List.Sorted.{IsPartitionPoint}
use Rattle.std.specs.Prelude.{filter, find, position}
use Rattle.std.proofs.lemmas.Bool.{cases_Bool, cases_lt, lt-ltb}
use Rattle.std.proofs.lemmas.List.{length-take-le}
use Rattle.std.proofs.lemmas.List.Elements.{recursion_from_All}
use Rattle.std.proofs.lemmas.List.Folds.{find_at}
use Rattle.std.proofs.lemmas.List.Sums.{fails_before_first}
use Rattle.std.proofs.lemmas.Option.{none-some, same_Some}
use Rattle.fb_units.proofs.Among.{among-any}
use Rattle.fb_units.proofs.Filtered.{Found}
use Rattle.fb_units.proofs.Lists.{all_get, element_at}

none_found : {X : Type 0} (test : X → Bool) (xs : List X) → (position_or_len test xs < length xs → ⊥)
    → AllByRecursion (λ x. test x ≡ false) xs
none_found test xs never = recursion_from_All (λ x. test x ≡ false) xs
    (λ k d inside. elim (cases_lt (position_or_len test xs) (length xs)) [
      | inl found ↦ absurd (never found)
      | inr behind ↦ fails_before_first test xs k d (omega arith)
    ])

-- no element passes where none is found
pub find-none : {X : Type 0} (test : X → Bool) (xs : List X) → find test xs ≡ None → AllByRecursion (λ x. test x ≡ false) xs
find-none test xs h = none_found test xs (λ found. let one = element_at xs (position_or_len test xs) found in
    none-some one.0 (sym h ∙ (find_at test xs ∙ one.1)))

pub position-none : {X : Type 0} (test : X → Bool) (xs : List X) → position test xs ≡ None → AllByRecursion (λ x. test x ≡ false) xs
position-none test xs h = none_found test xs (λ found. none-some (position_or_len test xs)
    (sym (rw (lt-ltb (position_or_len test xs) (length xs) found) at h)))

-- an element that is found stands in the list, and passes
pub find-some : {X : Type 0} (test : X → Bool) (xs : List X) (x : X) → find test xs ≡ Some x → Found test xs x
find-some test [] x h = absurd (none-some x h)
find-some test (y ∷ xs) x h = elim (cases_Bool (test y)) [
  | inl hit ↦ let same : Some y ≡ Some x = rw hit at h in (0, same, subst (λ z. test z ≡ true) (same_Some y x same) hit)
  | inr miss ↦ let rest = find-some test xs x (rw miss at h) in (suc rest.0, rest.1, rest.2)
]

-- before the point of a partition are the elements that pass, and behind it those that don't
pub at_point : {X : Type 0} (p : X → Bool) (xs : List X) (i : ℕ) → IsPartitionPoint (λ y. p y ≡ true) (λ y. p y ≡ false) xs i
    → (take i xs ≡ filter p xs) × (drop i xs ≡ filter (λ y. not (p y)) xs)
at_point p [] zero at = (refl, refl)
at_point p [] (suc i) at = (refl, refl)
at_point p (x ∷ xs) zero at =
    let out : p x ≡ false = at.1 0 x (omega arith) (omega arith) in
    let rest = at_point p xs 0 (λ k d low high. absurd (omega arith), λ k d low high. at.1 (suc k) d (omega arith) (omega arith)) in
    rw out (rest.0, ap (λ ys. x ∷ ys) rest.1)
at_point p (x ∷ xs) (suc i) at =
    let in_ : p x ≡ true = at.0 0 x (omega arith) (omega arith) in
    let rest = at_point p xs i (
      λ k d low high. at.0 (suc k) d (omega arith) (omega arith),
      λ k d low high. at.1 (suc k) d (omega arith)
          (omega arith),
    ) in
    rw in_ (ap (λ ys. x ∷ ys) rest.0, rest.1)

-- as many as pass come before the point
pub point-is : {X : Type 0} (p : X → Bool) (xs : List X) (i : ℕ) → i ≤ length xs
    → IsPartitionPoint (λ y. p y ≡ true) (λ y. p y ≡ false) xs i → length (filter p xs) ≡ i
point-is p xs i h at = ap length (sym (at_point p xs i at).0) ∙ length-take-le i xs h

-- an element that is found has what all have, and passes
pub find_all : {X : Type 0} (P : X → Type 0) (p : X → Bool) (xs : List X) (x : X) → AllByRecursion P xs → find p xs ≡ Some x
    → P x × (list_any p xs ≡ true)
find_all P p xs x all h =
    let one = find-some p xs x h in (all_get P xs one.0 x all one.1, among-any p xs x (one.0, one.1) one.2)
