-- What a word stands for if it isn't the first of a list, or isn't in it at all.
use Rattle.std.proofs.Common.{◌≡◌, ℕ, List, [], ◌∷◌, false, None, inl, inr, refl, sym}
use Rattle.std.specs.List.{AllByRecursion}
use Rattle.std.specs.Str.{bytes_eq}
use Rattle.std.proofs.lemmas.Bool.{cases_Bool}
use Rattle.std.proofs.lemmas.Slice.Eq.{bytes_eq-Decides}
use Rattle.fb_words.specs.Names.{meaning}

module _ {a b : List ℕ} where
  -- a word doesn't equal one that it differs from
  pub bytes_differ : (b ≡ a → ⊥) → bytes_eq a b ≡ false
  bytes_differ differ = elim (cases_Bool (bytes_eq a b)) [
    | inl same ↦ absurd (differ (sym ((bytes_eq-Decides a b).0 same)))
    | inr other ↦ other
  ]

-- a word that isn't the first of the list stands for what it stands for by the others
pub other_meaning : {A : Type 0} (name : List ℕ × A) (names : List (List ℕ × A)) (word : List ℕ) → (word ≡ name.0 → ⊥)
    → meaning names word ≡ meaning (name ∷ names) word
other_meaning name names word differs = rw (bytes_differ differs) refl

pub no_meaning : {A : Type 0} (names : List (List ℕ × A)) (word : List ℕ) → AllByRecursion (λ name. word ≡ name.0 → ⊥) names
    → None ≡ meaning names word
no_meaning [] word none = refl
no_meaning (name ∷ names) word none = rw (bytes_differ none.0) (no_meaning names word none.1)
