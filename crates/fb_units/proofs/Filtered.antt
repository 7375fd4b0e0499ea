-- What a test keeps of a list.
use Rattle.std.proofs.Common.{◌≡◌, ℕ, zero, suc, ◌≤◌, List, [], ◌∷◌, Bool, true, false, Some, map, filter, length, slice_get, take, inl}
use Rattle.std.proofs.Common.{inr, refl, ap, sym, ◌∙◌, arith, subst}
use Rattle.std.specs.List.{AllByRecursion}
use Rattle.std.proofs.lemmas.Bool.{cases_Bool, true≢false}
use Rattle.std.proofs.lemmas.Option.{none-some, same_Some}
use Rattle.fb_units.proofs.Lists.{all_filter}
use Rattle.fb_units.specs.Rising.{IsRising}

pub none_kept : {X : Type 0} (p : X → Bool) (xs : List X) → AllByRecursion (λ x. p x ≡ false) xs → filter p xs ≡ []
none_kept p [] all = refl
none_kept p (x ∷ xs) all = rw (all.0) (none_kept p xs all.1)

pub all_kept : {X : Type 0} (p : X → Bool) (xs : List X) → AllByRecursion (λ x. p x ≡ true) xs → filter p xs ≡ xs
all_kept p [] all = refl
all_kept p (x ∷ xs) all = rw all.0 (ap (λ ys. x ∷ ys) (all_kept p xs all.1))

-- filtering by a wider test first makes no difference
pub kept_twice : {X : Type 0} (p q : X → Bool) → ((x : X) → p x ≡ true → q x ≡ true) → (xs : List X) → filter p (filter q xs) ≡ filter p xs
kept_twice p q more [] = refl
kept_twice p q more (x ∷ xs) = elim (cases_Bool (q x)) [
  | inl kept ↦ rw kept (elim (cases_Bool (p x)) [
    | inl both ↦ rw both (ap (λ ys. x ∷ ys) (kept_twice p q more xs))
    | inr one ↦ rw one (kept_twice p q more xs)
  ])
  | inr dropped ↦ rw dropped (elim (cases_Bool (p x)) [
    | inl both ↦ absurd (true≢false (sym (more x both) ∙ dropped))
    | inr one ↦ rw one (kept_twice p q more xs)
  ])
]

-- what is kept of images are the images of what is kept
pub kept_map : {X Y : Type 0} (p : Y → Bool) (f : X → Y) (xs : List X) → filter p (map f xs) ≡ map f (filter (λ x. p (f x)) xs)
kept_map p f [] = refl
kept_map p f (x ∷ xs) = elim (cases_Bool (p (f x))) [
  | inl kept ↦ rw kept (ap (λ ys. f x ∷ ys) (kept_map p f xs))
  | inr dropped ↦ rw dropped (kept_map p f xs)
]

-- an element that is kept stands in the whole list, and passes
abbrev pub Found : {X : Type 0} → (X → Bool) → List X → X → Type 0
Found p xs x = (j : ℕ) × (slice_get xs j ≡ Some x) × (p x ≡ true)

pub filter_from : {X : Type 0} (p : X → Bool) (xs : List X) (i : ℕ) (x : X) → slice_get (filter p xs) i ≡ Some x → Found p xs x
filter_from p [] i x h = absurd (cc)
filter_from p (y ∷ ys) i x h = elim (cases_Bool (p y)) [
  | inl pass ↦ first i (rw pass at h) pass (λ k at. filter_from p ys k x at)
  | inr fail ↦ let rest = filter_from p ys i x (rw fail at h) in (suc rest.0, rest.1, rest.2)
] where
  first : (k : ℕ) → slice_get (y ∷ filter p ys) k ≡ Some x → p y ≡ true → ((n : ℕ) → slice_get (filter p ys) n ≡ Some x → Found p ys x)
      → Found p (y ∷ ys) x
  first zero at pass rest = (zero, at, subst (λ z. p z ≡ true) (same_Some y x at) pass)
  first (suc k) at pass rest = let r = rest k at in (suc r.0, r.1, r.2)

pub rising_filter : (p : ℕ → Bool) (xs : List ℕ) → IsRising xs → IsRising (filter p xs)
rising_filter p [] rising = tt
rising_filter p (x ∷ xs) rising = elim (cases_Bool (p x)) [
  | inl kept ↦ rw kept (all_filter (λ later. x ≤ later) p xs rising.0, rising_filter p xs rising.1)
  | inr dropped ↦ rw dropped (rising_filter p xs rising.1)
]

-- an element that is kept goes behind those that are kept before it
pub kept_to : {A : Type 0} (keep : A → Bool) (i : ℕ) (xs : List A) (x : A) → slice_get xs i ≡ Some x → keep x ≡ true
    → slice_get (filter keep xs) (length (filter keep (take i xs))) ≡ Some x
kept_to keep i [] x at stays = absurd (none-some x at)
kept_to keep zero (y ∷ xs) x at stays = rw (ap keep (same_Some y x at) ∙ stays) at
kept_to keep (suc i) (y ∷ xs) x at stays = grind (arith, kept_to keep i xs x at stays)

-- and one that passes is among those that are kept
pub filter_to : {X : Type 0} (p : X → Bool) (xs : List X) (i : ℕ) (x : X) → slice_get xs i ≡ Some x → p x ≡ true
    → (j : ℕ) × (slice_get (filter p xs) j ≡ Some x)
filter_to p xs i x h pass = (length (filter p (take i xs)), kept_to p i xs x h pass)
