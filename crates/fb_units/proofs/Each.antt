-- What holds of each element of a list.
use Rattle.std.proofs.Common.{◌≡◌, ℕ, zero, suc, List, [], ◌∷◌, ◌++◌, Bool, true, Some, map, length, set, slice_get, filter, inl, inr}
use Rattle.std.proofs.Common.{refl, subst, arith}
use Rattle.std.specs.List.{AllByRecursion, best_of, flat_map, list_all}
use Rattle.std.proofs.lemmas.Bool.{cases_Bool}
use Rattle.std.proofs.lemmas.Option.{same_Some}
use Rattle.fb_units.proofs.Lists.{all_append, all_left, all_right}

pub all_any : {X : Type 0} (P : X → Type 0) → ((x : X) → P x) → (xs : List X) → AllByRecursion P xs
all_any P f [] = tt
all_any P f (x ∷ xs) = (f x, all_any P f xs)

pub all_with : {X : Type 0} (P Q R : X → Type 0) → ((x : X) → P x → Q x → R x) → (xs : List X) → AllByRecursion P xs → AllByRecursion Q xs
    → AllByRecursion R xs
all_with P Q R f [] p q = tt
all_with P Q R f (x ∷ xs) p q = (f x p.0 q.0, all_with P Q R f xs p.1 q.1)

pub all_both : {X : Type 0} (P Q : X → Type 0) (xs : List X) → AllByRecursion P xs → AllByRecursion Q xs
    → AllByRecursion (λ x. P x × Q x) xs
all_both P Q = all_with P Q (λ x. P x × Q x) (λ x p q. (p, q))

pub all_pass : {X : Type 0} (p : X → Bool) (xs : List X) → AllByRecursion (λ x. p x ≡ true) (filter p xs)
all_pass p [] = tt
all_pass p (x ∷ xs) = grind (arith, all_pass p xs)

-- all pass if each does, and the other way round
pub list_all_each : {X : Type 0} (p : X → Bool) (xs : List X) → list_all p xs ≡ true → AllByRecursion (λ x. p x ≡ true) xs
list_all_each p [] h = tt
list_all_each p (x ∷ xs) h = (grind arith, list_all_each p xs (grind arith))

pub each_all : {X : Type 0} (p : X → Bool) (xs : List X) → AllByRecursion (λ x. p x ≡ true) xs → list_all p xs ≡ true
each_all p [] h = refl
each_all p (x ∷ xs) h = rw h.0 (each_all p xs h.1)

pub all_map : {X Y : Type 0} (P : Y → Type 0) (f : X → Y) (xs : List X) → AllByRecursion (λ x. P (f x)) xs → AllByRecursion P (map f xs)
all_map P f [] all = tt
all_map P f (x ∷ xs) all = (all.0, all_map P f xs all.1)

pub all_unmapped : {X Y : Type 0} (P : Y → Type 0) (f : X → Y) (xs : List X) → AllByRecursion P (map f xs)
    → AllByRecursion (λ x. P (f x)) xs
all_unmapped P f [] all = tt
all_unmapped P f (x ∷ xs) all = (all.0, all_unmapped P f xs all.1)

pub flat_all : {X Y : Type 0} (P : Y → Type 0) (f : X → List Y) (xs : List X) → AllByRecursion (λ x. AllByRecursion P (f x)) xs
    → AllByRecursion P (flat_map f xs)
flat_all P f [] p = tt
flat_all P f (x ∷ xs) p = all_append P (f x) (flat_map f xs) p.0 (flat_all P f xs p.1)

pub all_flat : {X Y : Type 0} (P : Y → Type 0) (f : X → List Y) (xs : List X) → AllByRecursion P (flat_map f xs)
    → AllByRecursion (λ x. AllByRecursion P (f x)) xs
all_flat P f [] p = tt
all_flat P f (x ∷ xs) p = (all_left P (f x) (flat_map f xs) p, all_flat P f xs (all_right P (f x) (flat_map f xs) p))

-- what holds of all holds of the best one
pub all_best : {X : Type 0} (P : X → Type 0) (p : X → X → Bool) (x : X) (xs : List X) → P x → AllByRecursion P xs → P (best_of p x xs)
all_best P p x [] one all = one
all_best P p x (y ∷ ys) one all = elim (cases_Bool (p y x)) [
  | inl better ↦ rw better (all_best P p y ys all.0 all.1)
  | inr worse ↦ rw worse (all_best P p x ys one all.1)
]

-- what holds of a new element and of each other holds of each
pub each_set : {X : Type 0} (P : ℕ → X → Type 0) (xs : List X) (i : ℕ) (new : X) → P i new
    → ((k : ℕ) (x : X) → (i ≡ k → ⊥) → slice_get xs k ≡ Some x → P k x)
    → (k : ℕ) (x : X) → slice_get (set xs i new) k ≡ Some x → P k x
each_set P [] i new own others k x at = absurd (cc)
each_set P (y ∷ ys) zero new own others zero x at = subst (P 0) (same_Some new x at) own
each_set P (y ∷ ys) zero new own others (suc k) x at = others (suc k) x (λ e. absurd (omega arith)) at
each_set P (y ∷ ys) (suc i) new own others zero x at = others zero x (λ e. absurd (omega arith)) at
each_set P (y ∷ ys) (suc i) new own others (suc k) x at =
    each_set (λ n. P (suc n)) ys i new own (λ n z differ. others (suc n) z (λ e. differ (omega arith))) k x at

pub each_push : {X : Type 0} (P : ℕ → X → Type 0) (xs : List X) (new : X) → P (length xs) new
    → ((k : ℕ) (x : X) → slice_get xs k ≡ Some x → P k x)
    → (k : ℕ) (x : X) → slice_get (xs ++ new ∷ []) k ≡ Some x → P k x
each_push P [] new own others zero x at = subst (P 0) (same_Some new x at) own
each_push P [] new own others (suc k) x at = absurd (cc)
each_push P (y ∷ ys) new own others zero x at = others zero x at
each_push P (y ∷ ys) new own others (suc k) x at = each_push (λ n. P (suc n)) ys new own (λ n. others (suc n)) k x at

-- what holds of whatever a function gives
pub all_map_any : {X Y : Type 0} (P : Y → Type 0) (f : X → Y) → ((x : X) → P (f x)) → (xs : List X) → AllByRecursion P (map f xs)
all_map_any P f each xs = all_map P f xs (all_any (λ x. P (f x)) each xs)
