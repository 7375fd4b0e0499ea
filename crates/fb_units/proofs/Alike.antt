-- Functions and tests that agree on a list.
use Rattle.std.proofs.Common.{◌≡◌, List, [], ◌∷◌, Bool, map, filter, refl}
use Rattle.std.specs.List.{AllByRecursion, flat_map, list_all, list_any}
use Rattle.fb_units.proofs.Each.{all_any}
use Rattle.fb_units.proofs.Lists.{all_weaker}

-- functions that agree on a list give the same
pub map_same : {X Y : Type 0} (f g : X → Y) (xs : List X) → AllByRecursion (λ x. f x ≡ g x) xs → map f xs ≡ map g xs
map_same f g [] p = refl
map_same f g (x ∷ xs) p = rw (p.0, map_same f g xs p.1) refl

pub same_map : {X Y : Type 0} (f g : X → Y) → ((x : X) → f x ≡ g x) → (xs : List X) → map f xs ≡ map g xs
same_map f g same xs = map_same f g xs (all_any (λ x. f x ≡ g x) same xs)

pub same_map_where : {X Y : Type 0} (P : X → Type 0) (f g : X → Y) → ((x : X) → P x → f x ≡ g x) → (xs : List X) → AllByRecursion P xs
    → map f xs ≡ map g xs
same_map_where P f g same xs all = map_same f g xs (all_weaker P (λ x. f x ≡ g x) same xs all)

pub all_same : {X : Type 0} (p q : X → Bool) (xs : List X) → AllByRecursion (λ x. p x ≡ q x) xs → list_all p xs ≡ list_all q xs
all_same p q [] h = refl
all_same p q (x ∷ xs) h = rw (h.0, all_same p q xs h.1) refl

pub any_same : {X : Type 0} (p q : X → Bool) (xs : List X) → AllByRecursion (λ x. p x ≡ q x) xs → list_any p xs ≡ list_any q xs
any_same p q [] h = refl
any_same p q (x ∷ xs) h = rw (h.0, any_same p q xs h.1) refl

pub filter_same : {X : Type 0} (p q : X → Bool) (xs : List X) → AllByRecursion (λ x. p x ≡ q x) xs → filter p xs ≡ filter q xs
filter_same p q [] h = refl
filter_same p q (x ∷ xs) h = rw (h.0, filter_same p q xs h.1) refl

pub flat_same : {X Y : Type 0} (f g : X → List Y) (xs : List X) → AllByRecursion (λ x. f x ≡ g x) xs → flat_map f xs ≡ flat_map g xs
flat_same f g [] h = refl
flat_same f g (x ∷ xs) h = rw (h.0, flat_same f g xs h.1) refl

pub flat_none : {X Y : Type 0} (f : X → List Y) (xs : List X) → AllByRecursion (λ x. f x ≡ []) xs → flat_map f xs ≡ []
flat_none f [] h = refl
flat_none f (x ∷ xs) h = rw (h.0, flat_none f xs h.1) refl

pub flat_map_same : {X A : Type 0} (f g : X → List A) → ((x : X) → f x ≡ g x) → (xs : List X) → flat_map f xs ≡ flat_map g xs
flat_map_same f g same xs = flat_same f g xs (all_any (λ x. f x ≡ g x) same xs)

-- a test of mapped elements
pub list_any-map : {X Y : Type 0} (p : Y → Bool) (f : X → Y) (xs : List X) → list_any p (map f xs) ≡ list_any (λ x. p (f x)) xs
list_any-map p f [] = refl
list_any-map p f (x ∷ xs) = rw (list_any-map p f xs) refl
