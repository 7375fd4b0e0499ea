-- Sums over the blocks, after a block changes its state.
use Rattle.fb_wanted.proofs.Words.{◌≡◌, ℕ, zero, suc, ◌+◌, ◌≤◌, List, [], ◌∷◌, Some, map, slice_get, refl, ap, sym, ◌∙◌, arith, sum_by}
use Rattle.fb_wanted.proofs.Words.{sum_by-cons, same_Some, none-some, Entry, State, with_state}

module _ (sum : List Entry → ℕ) (cons : (x : Entry) (xs : List Entry) → sum (x ∷ xs) ≡ sum (x ∷ []) + sum xs) where
  -- the sum loses the block's part before and gains its part after
  pub sum-with_state : (s : State) (n : ℕ) (e : Entry) (es : List Entry) → slice_get es n ≡ Some e
      → sum (with_state s n es) + sum (e ∷ []) ≡ sum es + sum (record { block = e.block; state = s } ∷ [])
  sum-with_state s n e [] at = absurd (none-some e at)
  sum-with_state s zero e (x ∷ es) at =
      let same = same_Some x e at in
      let one = ap (λ y. sum (y ∷ [])) same in
      let two = ap (λ (y : Entry). let z : Entry = record { block = y.block; state = s } in sum (z ∷ [])) same in
      omega (arith, cons x es, cons (record { block = x.block; state = s }) es, one, two)
  sum-with_state s (suc n) e (x ∷ es) at = omega (arith, cons x es, cons x (with_state s n es), sum-with_state s n e es at)

  -- the part of a block is no more than the sum
  pub sum_at : (n : ℕ) (e : Entry) (es : List Entry) → slice_get es n ≡ Some e → sum (e ∷ []) ≤ sum es
  sum_at n e [] at = absurd (none-some e at)
  sum_at zero e (x ∷ es) at = let one = ap (λ y. sum (y ∷ [])) (same_Some x e at) in omega (arith, cons x es, one)
  sum_at (suc n) e (x ∷ es) at = omega (arith, cons x es, sum_at n e es at)

-- a sum whose parts are no greater is no greater
pub sum-le : (sum other : List Entry → ℕ) → ((x : Entry) (xs : List Entry) → sum (x ∷ xs) ≡ sum (x ∷ []) + sum xs)
    → ((x : Entry) (xs : List Entry) → other (x ∷ xs) ≡ other (x ∷ []) + other xs)
    → sum [] ≤ other [] → ((x : Entry) → sum (x ∷ []) ≤ other (x ∷ [])) → (es : List Entry) → sum es ≤ other es
sum-le sum other cons cons_other none one [] = none
sum-le sum other cons cons_other none one (e ∷ es) =
    omega (arith, cons e es, cons_other e es, one e, sum-le sum other cons cons_other none one es)

-- a sum over what a list is mapped to is one over the list
pub sums-map : {X Y : Type 0} (f : Y → ℕ) (g : X → Y) (xs : List X) → sum_by f (map g xs) ≡ sum_by (λ x. f (g x)) xs
sums-map f g [] = refl
sums-map f g (x ∷ xs) = sum_by-cons f (g x) (map g xs) ∙ (ap (λ n. f (g x) + n) (sums-map f g xs) ∙ sym (sum_by-cons (λ y. f (g y)) x xs))
