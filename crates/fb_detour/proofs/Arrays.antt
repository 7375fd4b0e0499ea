-- Arrays whose parts are written one after another.
use Rattle.fb_detour.proofs.Words.{List, [], ap, arith, false, get_or, if◌then◌else◌, inl, inr, length, nat_lt, subst, suc, sym, take, true}
use Rattle.fb_detour.proofs.Words.{zero, ℕ, ◌*◌, ◌+◌, ◌/◌, ◌<◌, ◌∙◌, ◌∷◌, ◌≡◌, ◌≤◌, mod-lt, cases_lt, nat_tests, get_or-set_other}
use Rattle.fb_detour.proofs.Words.{get_or-set_same, sum_by-cons, div-add-mod', slice_set, sum_of_first}

module _ (P : ℕ → ℕ → Type 0) (xs : List ℕ) (k v : ℕ) where
  -- the parts so far and one more
  pub set-below : k < length xs → ((j : ℕ) → j < k → P j (get_or xs j 0)) → P k v → (j : ℕ) → j < k + 1
      → P j (get_or (slice_set xs k v) j 0)
  set-below within before this j less = elim (cases_lt j k) [
    | inl under ↦ subst (P j) (sym (get_or-set_other xs k j v 0 (λ e. absurd (omega (arith, under, e))))) (before j under)
    | inr over ↦
        let same : k ≡ j = omega arith in
        subst (λ i. P i (get_or (slice_set xs k v) i 0)) same (subst (P k) (sym (get_or-set_same xs k v 0 within)) this)
  ]

  -- those to come stay
  pub set-above : ((j : ℕ) → k ≤ j → P j (get_or xs j 0)) → (j : ℕ) → k + 1 ≤ j → P j (get_or (slice_set xs k v) j 0)
  set-above after j over = subst (P j) (sym (get_or-set_other xs k j v 0 (λ e. absurd (omega (arith, over, e)))))
      (after j (omega (arith, over)))

-- sixteen steps of a bit more than a sixteenth go over the whole
pub over_all : (n : ℕ) → n < 16 * (n / 16 + 1)
over_all n = let whole = div-add-mod' n 16 in let rest = mod-lt n {m = 16} (omega arith) in omega (arith, whole, rest)

-- and end soon behind it
pub sixteen : (n : ℕ) → 16 * (n / 16 + 1) ≤ n + 16
sixteen n = omega (arith, div-add-mod' n 16)

-- the sum of the first numbers begins with the first one
pub sum-cons : (x : ℕ) (xs : List ℕ) (n : ℕ) → sum_of_first (suc n) (x ∷ xs) ≡ x + sum_of_first n xs
sum-cons x xs n = sum_by-cons (λ number. number) x (take n xs)

-- what one number gains, each sum gains that reaches over it
pub sum-set : (xs : List ℕ) (i n v more : ℕ) → i < length xs → v ≡ get_or xs i 0 + more
    → sum_of_first n (slice_set xs i v) ≡ sum_of_first n xs + (if nat_lt i n then more else 0)
sum-set [] i n v more within value = absurd (omega (arith, within))
sum-set (x ∷ xs) i zero v more within value = let none : nat_lt i 0 ≡ false = grind (arith, nat_tests) in rw none (omega arith)
sum-set (x ∷ xs) zero (suc n) v more within value =
    let here : v ≡ x + more = value in
    let all : v + sum_of_first n xs ≡ x + sum_of_first n xs + more = omega (arith, here) in
    let by : nat_lt 0 (suc n) ≡ true = grind (arith, nat_tests) in
    rw by (sum-cons v xs n ∙ (all ∙ ap (λ sum. sum + more) (sym (sum-cons x xs n))))
sum-set (x ∷ xs) (suc i) (suc n) v more within value =
    let gained = if nat_lt i n then more else 0 in
    let rest : x + sum_of_first n (slice_set xs i v)
    ≡ x + sum_of_first n xs + gained = omega (arith, sum-set xs i n v more (omega (arith, within)) value) in
    let by : nat_lt (suc i) (suc n) ≡ nat_lt i n = grind (arith, nat_tests) in
    rw by (sum-cons x (slice_set xs i v) n ∙ (rest ∙ ap (λ sum. sum + gained) (sym (sum-cons x xs n))))
