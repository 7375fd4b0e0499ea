-- Facts of each element of a list.
use Rattle.std.proofs.Common.{◌≡◌, ℕ, zero, suc, ◌+◌, ◌<◌, List, [], ◌∷◌, length, get_or, take, drop, set, map, refl, sym, ap, ◌∙◌}
use Rattle.std.proofs.Common.{arith, subst, length-drop}
use Rattle.std.proofs.lemmas.List.{drop_more}
use Rattle.std.specs.Prelude.{replicate}
use Rattle.std.specs.List.{AllByRecursion}
use Rattle.fb_units.proofs.Lists.{all_at}

module _ {X : Type 0} (P : X → Type 0) where
  pub all_take : (k : ℕ) (xs : List X) → AllByRecursion P xs → AllByRecursion P (take k xs)
  all_take zero xs all = tt
  all_take (suc k) [] all = tt
  all_take (suc k) (x ∷ xs) all = (all.0, all_take k xs all.1)

  pub all_replicate : (n : ℕ) (x : X) → P x → AllByRecursion P (replicate n x)
  all_replicate zero x h = tt
  all_replicate (suc n) x h = (h, all_replicate n x h)

  -- what holds of each element holds of the one at an index
  pub one_of_all : (k : ℕ) (xs : List X) (x : X) → k < length xs → x ≡ get_or xs k x → AllByRecursion P xs → P x
  one_of_all k xs x inside is all = subst P (sym is) (all_at P xs k x all inside)

-- what a function gives of the element at an index
pub get_or-mapped : {X Y : Type 0} (f : X → Y) (k : ℕ) (xs : List X) (x : X) → x ≡ get_or xs k x → f x ≡ get_or (map f xs) k (f x)
get_or-mapped f k [] x is = refl
get_or-mapped f zero (y ∷ xs) x is = ap f is
get_or-mapped f (suc k) (y ∷ xs) x is = get_or-mapped f k xs x is

-- there is one element at an index
pub same_at : {X : Type 0} (k : ℕ) (xs : List X) (x y : X) → k < length xs → x ≡ get_or xs k x → y ≡ get_or xs k y → x ≡ y
same_at k [] x y inside ix iy = absurd (omega arith)
same_at zero (z ∷ xs) x y inside ix iy = ix ∙ sym iy
same_at (suc k) (z ∷ xs) x y inside ix iy = same_at k xs x y (omega arith) ix iy

-- two lists that go on alike from an index on have the same element there, and go on alike behind it
pub alike_from : {X : Type 0} (i : ℕ) (xs ys : List X) (x : X) → drop i xs ≡ drop i ys → i < length xs
    → (get_or xs i x ≡ get_or ys i x) × (drop (i + 1) xs ≡ drop (i + 1) ys) × (i < length ys)
alike_from i xs ys x alike inside =
    let also : i < length ys = omega (arith, ap length alike, length-drop i xs, length-drop i ys) in
    let front = drop_more xs i x inside in
    let other = drop_more ys i x also in
    (cc, cc, also)

-- one more element is written so that f of it is g of the other list's element
pub written_next : {X Y Z : Type 0} (f : X → Z) (g : Y → Z) (i : ℕ) (xs : List X) (ys : List Y) (x : X) (y : Y) → i < length xs
    → i < length ys → y ≡ get_or ys i y → f x ≡ g y
    → map f (take i xs) ≡ map g (take i ys) → map f (take (suc i) (set xs i x)) ≡ map g (take (suc i) ys)
written_next f g i [] ys x y inside also is same so_far = absurd (omega arith)
written_next f g i (a ∷ xs) [] x y inside also is same so_far = absurd (omega arith)
written_next f g zero (a ∷ xs) (b ∷ ys) x y inside also is same so_far = ap (λ z. z ∷ []) (same ∙ ap g is)
written_next f g (suc i) (a ∷ xs) (b ∷ ys) x y inside also is same so_far =
    let first : f a ≡ g b = cc in
    let others : map f (take i xs) ≡ map g (take i ys) = cc in
    ap (λ z. z ∷ map f (take (suc i) (set xs i x))) first
    ∙ ap (λ zs. g b ∷ zs) (written_next f g i xs ys x y (omega arith) (omega arith) is same others)
