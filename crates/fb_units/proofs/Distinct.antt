-- Lists in which each element differs from all that follow.
use Rattle.std.proofs.Common.{List, Some, [], ap, arith, refl, suc, sym, zero, ℕ, ◌++◌, ◌+◌, ◌<◌, ◌∙◌, ◌∷◌, ◌≡◌, ◌≢◌, ◌≤◌}
use Rattle.std.specs.List.{AllByRecursion, flat_map, range_with_len}
use Rattle.std.specs.Prelude.{slice_get}
use Rattle.std.proofs.lemmas.Option.{none-some, same_Some}
use Rattle.fb_units.proofs.Lists.{all_append, all_from_index, all_get, all_weaker}
use Rattle.fb_units.proofs.Parts.{all-parts}

-- each element differs from all that follow
abbrev pub Distinct : {A : Type 0} → List A → Type 0
Distinct [] = Unit {0}
Distinct (x ∷ xs) = AllByRecursion (λ y. x ≢ y) xs × Distinct xs

-- in such a list an element has only one index
pub one_index : {A : Type 0} (xs : List A) (i j : ℕ) (x : A) → Distinct xs → slice_get xs i ≡ Some x → slice_get xs j ≡ Some x → i ≡ j
one_index [] i j x apart at again = absurd (none-some x at)
one_index (y ∷ xs) zero zero x apart at again = refl
one_index (y ∷ xs) zero (suc j) x apart at again = absurd (all_get (λ z. y ≢ z) xs j x apart.0 again (same_Some y x at))
one_index (y ∷ xs) (suc i) zero x apart at again = absurd (all_get (λ z. y ≢ z) xs i x apart.0 at (same_Some y x again))
one_index (y ∷ xs) (suc i) (suc j) x apart at again = ap suc (one_index xs i j x apart.1 at again)

-- lists that a key tells apart
pub distinct-append : {A : Type 0} (key : A → ℕ) (b : ℕ) (xs ys : List A) → Distinct xs → Distinct ys → AllByRecursion (λ x. key x ≤ b) xs
    → AllByRecursion (λ y. b < key y) ys → Distinct (xs ++ ys)
distinct-append key b [] ys h k low high = k
distinct-append key b (x ∷ xs) ys h k low high =
    let apart = all_weaker (λ y. b < key y) (λ y. x ≢ y) (λ y more same. absurd (omega (arith, low.0, more, ap key same))) ys high in
    (all_append (λ y. x ≢ y) xs ys h.0 apart, distinct-append key b xs ys h.1 k low.1 high)

-- parts that a key tells apart
module _ {A : Type 0} (key : A → ℕ) (f : ℕ → List A) where
  pub distinct-parts : (a n : ℕ) → ((k : ℕ) → a ≤ k → k < a + n → Distinct (f k) × AllByRecursion (λ x. key x ≡ k) (f k))
      → Distinct (flat_map f (range_with_len a n))
  distinct-parts a zero each = tt
  distinct-parts a (suc n) each =
      let first = each a (omega arith) (omega arith) in
      let later = λ (k : ℕ) (from : a + 1 ≤ k) (upto : k < a + 1 + n). each k (omega arith) (omega arith) in
      let rest : AllByRecursion (λ x. a < key x) (flat_map f (range_with_len (a + 1) n)) =
      all-parts (λ x. a < key x) f (a + 1) n (λ k from upto. all_weaker (λ x. key x ≡ k) (λ x. a < key x) (λ x e. omega arith)
      (f k) (later k from upto).1) in
      distinct-append key a (f a) (flat_map f (range_with_len (a + 1) n)) first.0 (distinct-parts (a + 1) n later)
      (all_weaker (λ x. key x ≡ a) (λ x. key x ≤ a) (λ x e. omega arith) (f a) first.1) rest

-- lists in which an element has only one index
pub distinct_from : {A : Type 0} (xs : List A) → ((i j : ℕ) (x : A) → slice_get xs i ≡ Some x → slice_get xs j ≡ Some x → i ≡ j)
    → Distinct xs
distinct_from [] one = tt
distinct_from (x ∷ xs) one =
    let first = all_from_index (λ y. x ≢ y) xs (λ k y at same. absurd (omega (arith, one 0 (suc k) x refl (at ∙ ap Some (sym same))))) in
    (first, distinct_from xs (λ i j y at again. omega (arith, one (suc i) (suc j) y at again)))
