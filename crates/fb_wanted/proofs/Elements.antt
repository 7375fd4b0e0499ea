-- Elements of lists that are written, cut or made longer.
use Rattle.fb_wanted.proofs.Words.{◌≡◌, ℕ, zero, suc, ◌+◌, ◌-◌, ◌<◌, List, [], ◌∷◌, ◌++◌, Some, length, set, slice_get, get_or, refl, ap}
use Rattle.fb_wanted.proofs.Words.{◌∙◌, arith, same_Some, none-some, slice_get-get_or, Entry, State, with_state}
use Rattle.std.proofs.Common.{take}
use Rattle.std.specs.List.{swap_remove}
use Rattle.fb_units.proofs.Lists.{append_at}
use Rattle.fb_units.proofs.Parts.{get_take}

module _ {X : Type 0} where
  -- an element is there when one more follows
  pub at_left : (xs : List X) (y x : X) (i : ℕ) → slice_get xs i ≡ Some x → slice_get (xs ++ y ∷ []) i ≡ Some x
  at_left xs y x i at = append_at xs (y ∷ []) i x at

  pub at_end : (xs : List X) (y : X) → slice_get (xs ++ y ∷ []) (length xs) ≡ Some y
  at_end [] y = refl
  at_end (x ∷ xs) y = at_end xs y

  pub set_same : (xs : List X) (i : ℕ) (y : X) → i < length xs → slice_get (set xs i y) i ≡ Some y
  set_same [] i y lt = absurd (omega (arith, lt))
  set_same (x ∷ xs) zero y lt = refl
  set_same (x ∷ xs) (suc i) y lt = set_same xs i y (omega (arith, lt))

  pub set_other : (xs : List X) (i j : ℕ) (y : X) → (j ≡ i → ⊥) → slice_get (set xs i y) j ≡ slice_get xs j
  set_other [] i j y ne = refl
  set_other (x ∷ xs) zero zero y ne = absurd (ne refl)
  set_other (x ∷ xs) zero (suc j) y ne = refl
  set_other (x ∷ xs) (suc i) zero y ne = refl
  set_other (x ∷ xs) (suc i) (suc j) y ne = set_other xs i j y (λ same. ne (ap (λ n. suc n) same))

  take_within : (n : ℕ) (xs : List X) (i : ℕ) (x : X) → slice_get (take n xs) i ≡ Some x → i < n
  take_within zero xs i x at = absurd (none-some x at)
  take_within (suc n) [] i x at = absurd (none-some x at)
  take_within (suc n) (y ∷ xs) zero x at = omega arith
  take_within (suc n) (y ∷ xs) (suc i) x at = omega (arith, take_within n xs i x at)

  -- the elements without the one at an index, where the last one stands then
  module _ (xs : List X) (i : ℕ) (d : X) where
    pub removed_within : (j : ℕ) (x : X) → slice_get (swap_remove xs i d) j ≡ Some x → j + 1 < length xs
    removed_within j x at = omega (arith, take_within (length xs - 1) (set xs i (get_or xs (length xs - 1) d)) j x at)

    pub removed_other : (j : ℕ) → (j ≡ i → ⊥) → j + 1 < length xs → slice_get (swap_remove xs i d) j ≡ slice_get xs j
    removed_other j ne lt = get_take (length xs - 1) (set xs i (get_or xs (length xs - 1) d)) j (omega (arith, lt))
        ∙ set_other xs i j (get_or xs (length xs - 1) d) ne

    pub removed_at : i + 1 < length xs → slice_get (swap_remove xs i d) i ≡ Some (get_or xs (length xs - 1) d)
    removed_at lt = get_take (length xs - 1) (set xs i (get_or xs (length xs - 1) d)) i (omega (arith, lt)) ∙ set_same xs i
        (get_or xs (length xs - 1) d) (omega (arith, lt))

    pub last_at : 0 < length xs → slice_get xs (length xs - 1) ≡ Some (get_or xs (length xs - 1) d)
    last_at some = slice_get-get_or xs (length xs - 1) d (omega (arith, some))

-- the entries with one in another state
pub state_other : (s : State) (n q : ℕ) (es : List Entry) → (q ≡ n → ⊥) → slice_get (with_state s n es) q ≡ slice_get es q
state_other s n q [] ne = refl
state_other s zero zero (e ∷ es) ne = absurd (ne refl)
state_other s zero (suc q) (e ∷ es) ne = refl
state_other s (suc n) zero (e ∷ es) ne = refl
state_other s (suc n) (suc q) (e ∷ es) ne = state_other s n q es (λ same. ne (ap (λ k. suc k) same))

pub state_at : (s : State) (n : ℕ) (e : Entry) (es : List Entry) → slice_get es n ≡ Some e → slice_get (with_state s n es) n ≡ Some
    (record { block = e.block; state = s })
state_at s n e [] at = absurd (none-some e at)
state_at s zero e (x ∷ es) at = ap (λ (y : Entry). let z : Entry = record { block = y.block; state = s } in Some z) (same_Some x e at)
state_at s (suc n) e (x ∷ es) at = state_at s n e es at

-- the last entry in another state
pub state_last : (s : State) (es : List Entry) (e : Entry) → with_state s (length es)
    (es ++ e ∷ []) ≡ es ++ record { block = e.block; state = s } ∷ []
state_last s [] e = refl
state_last s (x ∷ es) e = ap (λ l. x ∷ l) (state_last s es e)
