-- Ranges of numbers, and lists that are made of parts.
use Rattle.std.proofs.Common.{Bool, List, Some, [], ap, arith, length, map, refl, suc, sym, take, zero, ℕ, ◌*◌, ◌++◌, ◌+◌, ◌<◌, ◌∙◌, ◌∷◌}
use Rattle.std.proofs.Common.{◌≡◌, ◌≤◌}
use Rattle.std.specs.List.{AllByRecursion, flat_map, range_with_len}
use Rattle.std.specs.Prelude.{filter, slice_get}
use Rattle.std.proofs.lemmas.List.{length-append, map-append}
use Rattle.std.proofs.lemmas.List.Elements.{filter-append}
use Rattle.std.proofs.lemmas.Option.{same_Some}
use Rattle.fb_units.proofs.Comparing.{add_one, add_zero, zero_add}
use Rattle.fb_units.proofs.Each.{flat_all}
use Rattle.fb_units.proofs.Lists.{all_range, get_left, get_right}

-- the i-th number of a range
pub get_range : (a n i : ℕ) → i < n → slice_get (range_with_len a n) i ≡ Some (a + i)
get_range a zero i h = absurd (omega arith)
get_range a (suc n) zero h = ap Some (omega arith)
get_range a (suc n) (suc i) h = get_range (a + 1) n i (omega arith) ∙ ap Some (omega arith)

-- two functions that agree on the numbers of two ranges
pub map-ranges : {X : Type 0} (f g : ℕ → X) (a b n : ℕ) → ((i : ℕ) → i < n → f (a + i) ≡ g (b + i)) → map f (range_with_len a n)
    ≡ map g (range_with_len b n)
map-ranges f g a b zero same = refl
map-ranges f g a b (suc n) same =
    let head : f a ≡ g b = ap f (sym (add_zero a)) ∙ (same 0 (omega arith) ∙ ap g (add_zero b)) in
    let tail : map f (range_with_len (a + 1) n) ≡ map g (range_with_len (b + 1) n) =
    map-ranges f g (a + 1) (b + 1) n (λ i h. ap f (sym (add_one a i)) ∙ (same (i + 1) (omega arith) ∙ ap g (add_one b i))) in
    ap (λ x. x ∷ map f (range_with_len (a + 1) n)) head ∙ ap (λ xs. g b ∷ xs) tail

-- a range is made of its first numbers and the rest
pub range-append : (a m n : ℕ) → range_with_len a (m + n) ≡ range_with_len a m ++ range_with_len (a + m) n
range-append a zero n = ap (range_with_len a) (zero_add n) ∙ ap (λ x. range_with_len x n) (sym (add_zero a))
range-append a (suc m) n = let longer : suc m + n ≡ suc (m + n) = omega arith in
    ap (range_with_len a) longer ∙ ap (λ xs. a ∷ xs) (range-append (a + 1) m n
    ∙ ap (λ x. range_with_len (a + 1) m ++ range_with_len x n) (omega arith))

-- a list of parts of one length is as long as their number times that length
pub length-parts : {X A : Type 0} (f : X → List A) (n : ℕ) → ((x : X) → length (f x) ≡ n) → (xs : List X)
    → length (flat_map f xs) ≡ length xs * n
length-parts f n each [] = omega arith
length-parts f n each (x ∷ xs) = length-append (f x) (flat_map f xs) ∙ grind (arith, each x, length-parts f n each xs)

-- the r-th element of the q-th part
pub get_part : {X A : Type 0} (f : X → List A) (n : ℕ) → ((x : X) → length (f x) ≡ n) → (xs : List X) (q r i : ℕ) (x : X)
    → slice_get xs q ≡ Some x → r < n → i ≡ q * n + r → slice_get (flat_map f xs) i ≡ slice_get (f x) r
get_part f n each [] q r i x e h p = cc
get_part f n each (y ∷ ys) zero r i x e h p =
    get_left (f y) (flat_map f ys) i (omega (arith, each y)) ∙ ap (λ z. slice_get (f z) i) (same_Some y x e)
    ∙ ap (slice_get (f x)) (omega arith)
get_part f n each (y ∷ ys) (suc q) r i x e h p =
    get_right (f y) (flat_map f ys) (q * n + r) i (omega (arith, each y)) ∙ get_part f n each ys q r (q * n + r) x e h refl

-- to filter each part is to filter the whole
pub filter-flat_map : {X A : Type 0} (p : A → Bool) (f : X → List A) (xs : List X) → flat_map (λ x. filter p (f x)) xs
    ≡ filter p (flat_map f xs)
filter-flat_map p f [] = refl
filter-flat_map p f (x ∷ xs) = ap (λ ys. filter p (f x) ++ ys) (filter-flat_map p f xs) ∙ sym (filter-append p (f x) (flat_map f xs))

-- the parts of a range, one after another, are the whole range
pub flat-ranges : {A : Type 0} (g : ℕ → A) (n a h : ℕ) → flat_map (λ k. map g (range_with_len (k * n) n)) (range_with_len a h)
    ≡ map g (range_with_len (a * n) (h * n))
flat-ranges g n a zero = let none : 0 ≡ 0 * n = omega arith in ap (λ m. map g (range_with_len (a * n) m)) none
flat-ranges g n a (suc h) =
    let next : (a + 1) * n ≡ a * n + n = omega arith in
    let more : n + h * n ≡ suc h * n = omega arith in
    ap (λ xs. map g (range_with_len (a * n) n) ++ xs) (flat-ranges g n (a + 1) h ∙ ap (λ b. map g (range_with_len b (h * n))) next)
    ∙ (sym (map-append g (range_with_len (a * n) n) (range_with_len (a * n + n) (h * n))) ∙ ap (map g) (sym (range-append (a * n) n (h * n))
    ∙ ap (range_with_len (a * n)) more))

-- what holds of each element of each part
pub all-parts : {A : Type 0} (P : A → Type 0) (f : ℕ → List A) (a n : ℕ) → ((k : ℕ) → a ≤ k → k < a + n → AllByRecursion P (f k))
    → AllByRecursion P (flat_map f (range_with_len a n))
all-parts P f a n h = flat_all P f (range_with_len a n) (all_range (λ k. AllByRecursion P (f k)) a n h)

-- the front has its elements at their indexes
pub get_take : {X : Type 0} (n : ℕ) (xs : List X) (i : ℕ) → i < n → slice_get (take n xs) i ≡ slice_get xs i
get_take zero xs i h = absurd (omega arith)
get_take (suc n) [] i h = refl
get_take (suc n) (x ∷ xs) zero h = refl
get_take (suc n) (x ∷ xs) (suc i) h = get_take n xs i (omega arith)
