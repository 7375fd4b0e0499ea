-- Sums over lists.
use Rattle.fb_bgwrite.proofs.Words.{sum_by-le-sum_by, ◌≡◌, ℕ, zero, suc, ◌<◌, ◌≤◌, List, [], ◌∷◌, Some, slice_get, subst, sym}
use Rattle.fb_bgwrite.proofs.Words.{arith, AllByRecursion, sum_by, sum_by-cons, some_one}

-- no element adds more
pub sum_le_on : {X : Type 0} (f g : X → ℕ) (xs : List X) → AllByRecursion (λ x. f x ≤ g x) xs → sum_by f xs ≤ sum_by g xs
sum_le_on f g [] all = omega arith
sum_le_on f g (x ∷ xs) all = omega (arith, sum_by-cons f x xs, sum_by-cons g x xs, all.0, sum_le_on f g xs all.1)

-- and one adds less
pub sum_less : {X : Type 0} (f g : X → ℕ) → ((x : X) → f x ≤ g x) → (xs : List X) (k : ℕ) (x : X) → slice_get xs k ≡ Some x → f x < g x
    → sum_by f xs < sum_by g xs
sum_less f g le [] k x at less = absurd (grind arith)
sum_less f g le (y ∷ ys) zero x at less =
    let here : f y < g y = subst (λ z. f z < g z) (sym (some_one y x at)) less in
    omega (arith, sum_by-cons f y ys, sum_by-cons g y ys, here, sum_by-le-sum_by f g ys le)
sum_less f g le (y ∷ ys) (suc k) x at less = omega (arith, sum_by-cons f y ys, sum_by-cons g y ys, le y, sum_less f g le ys k x at less)
