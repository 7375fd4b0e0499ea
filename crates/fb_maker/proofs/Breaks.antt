-- How often a list of places leaves the turn of its track.
use Rattle.fb_units.proofs.Lists.{all_filter}
use Rattle.fb_maker.proofs.Words.{◌≡◌, ℕ, zero, suc, ◌+◌, ◌-◌, ◌*◌, ◌<◌, ◌≤◌, List, [], ◌∷◌, ◌++◌, length, take, Bool, true, false, refl}
use Rattle.fb_maker.proofs.Words.{sym, ap, ◌∙◌, arith, append_assoc, subst, inl, inr, if◌then◌else◌, filter, AllByRecursion, flat_map}
use Rattle.fb_maker.proofs.Words.{range_with_len, cases_Bool, cases_lt}

module _ {A : Type 0} (later : A → A → Bool) where
  -- the number of breaks in a list that follows one more element
  abbrev pub breaks_from : A → List A → ℕ
  breaks_from a [] = 0
  breaks_from a (b ∷ xs) = (if later a b then 0 else 1) + breaks_from b xs

  -- each element comes later than the one before it
  abbrev pub Chain : A → List A → Type 0
  Chain a [] = Unit {0}
  Chain a (b ∷ xs) = (later a b ≡ true) × Chain b xs

  -- the first n elements have at most one break for each sixteen of them, rounded up
  abbrev pub IsSpread : List A → Type 0
  IsSpread xs = (a : A) (n : ℕ) → 16 * breaks_from a (take n xs) ≤ n + 15

  -- that holds of the list with any such list behind it
  abbrev pub SpreadsOn : List A → Type 0
  SpreadsOn xs = (rest : List A) → IsSpread rest → IsSpread (xs ++ rest)

  pub spread_nothing : IsSpread []
  spread_nothing a zero = omega arith
  spread_nothing a (suc n) = omega arith

  none_within : (a : A) (xs rest : List A) (n : ℕ) → Chain a xs → n ≤ length xs → breaks_from a (take n (xs ++ rest)) ≡ 0
  none_within a [] rest zero chain within = refl
  none_within a [] rest (suc n) chain within = absurd (omega arith)
  none_within a (b ∷ xs) rest zero chain within = refl
  none_within a (b ∷ xs) rest (suc n) chain within = rw chain.0 (let none = none_within b xs rest n chain.1 (omega arith) in omega arith)

  few_behind : (a : A) (xs rest : List A) (n : ℕ) → Chain a xs → IsSpread rest
      → 16 * breaks_from a (take n (xs ++ rest)) ≤ n - length xs + 15
  few_behind a [] rest n chain spread = let h = spread a n in omega arith
  few_behind a (b ∷ xs) rest zero chain spread = omega arith
  few_behind a (b ∷ xs) rest (suc n) chain spread = rw chain.0 (let h = few_behind b xs rest n chain.1 spread in omega arith)

  one_at_most : (b : Bool) → (if b then 0 else 1) ≤ 1
  one_at_most true = omega arith
  one_at_most false = omega arith

  -- it holds of a chain of at least sixteen elements with any such list behind it
  pub spreads_chain : (a : A) (xs : List A) → Chain a xs → 15 ≤ length xs → SpreadsOn (a ∷ xs)
  spreads_chain a xs chain long rest spread before zero = omega arith
  spreads_chain a xs chain long rest spread before (suc n) = elim (cases_lt (length xs) n) [
    | inr within ↦ let none = none_within a xs rest n chain within in let one = one_at_most (later before a) in omega arith
    | inl past ↦ let few = few_behind a xs rest n chain spread in let one = one_at_most (later before a) in omega arith
  ]

  pub spreads_nothing : SpreadsOn []
  spreads_nothing rest spread = spread

  pub spreads_both : (xs ys : List A) → SpreadsOn xs → SpreadsOn ys → SpreadsOn (xs ++ ys)
  spreads_both xs ys first second rest spread = subst IsSpread (sym (append_assoc xs ys rest)) (first (ys ++ rest) (second rest spread))

  pub spreads_all : {B : Type 0} (f : B → List A) (xs : List B) → AllByRecursion (λ x. SpreadsOn (f x)) xs → SpreadsOn (flat_map f xs)
  spreads_all f [] all = spreads_nothing
  spreads_all f (x ∷ xs) all = spreads_both (f x) (flat_map f xs) all.0 (spreads_all f xs all.1)

  -- each element comes later than all before it
  abbrev pub Ascends : List A → Type 0
  Ascends [] = Unit {0}
  Ascends (a ∷ xs) = AllByRecursion (λ b. later a b ≡ true) xs × Ascends xs

  pub chain_of : (a : A) (xs : List A) → Ascends (a ∷ xs) → Chain a xs
  chain_of a [] up = tt
  chain_of a (b ∷ xs) up = (up.0.0, chain_of b xs up.1)

  pub ascends_filter : (p : A → Bool) (xs : List A) → Ascends xs → Ascends (filter p xs)
  ascends_filter p [] up = tt
  ascends_filter p (x ∷ xs) up = elim (cases_Bool (p x)) [
    | inl kept ↦ rw kept (all_filter (λ b. later x b ≡ true) p xs up.0, ascends_filter p xs up.1)
    | inr dropped ↦ rw dropped (ascends_filter p xs up.1)
  ]

  all_take : (P : A → Type 0) (n : ℕ) (xs : List A) → AllByRecursion P xs → AllByRecursion P (take n xs)
  all_take P zero xs all = tt
  all_take P (suc n) [] all = tt
  all_take P (suc n) (x ∷ xs) all = (all.0, all_take P n xs all.1)

  pub ascends_take : (n : ℕ) (xs : List A) → Ascends xs → Ascends (take n xs)
  ascends_take zero xs up = tt
  ascends_take (suc n) [] up = tt
  ascends_take (suc n) (x ∷ xs) up = (all_take (λ b. later x b ≡ true) n xs up.0, ascends_take n xs up.1)

  -- it holds of an ascending list of at least sixteen elements with any such list behind it
  pub spreads_ascending : (xs : List A) → Ascends xs → 16 ≤ length xs → SpreadsOn xs
  spreads_ascending [] up long = absurd (omega arith)
  spreads_ascending (a ∷ xs) up long = spreads_chain a xs (chain_of a xs up) (omega arith)

-- numbers of which each has the next key
module _ (key : ℕ → ℕ) where
  abbrev pub Counts : ℕ → List ℕ → Type 0
  Counts base [] = Unit {0}
  Counts base (s ∷ ss) = (key s ≡ base) × Counts (base + 1) ss

  pub counts_above : (base low : ℕ) (ss : List ℕ) → low ≤ base → Counts base ss → AllByRecursion (λ s. low ≤ key s) ss
  counts_above base low [] below counts = tt
  counts_above base low (s ∷ ss) below counts = (omega (arith, counts.0), counts_above (base + 1) low ss (omega arith) counts.1)

  pub counts_both : (base next : ℕ) (xs ys : List ℕ) → next ≡ base + length xs → Counts base xs → Counts next ys → Counts base (xs ++ ys)
  counts_both base next [] ys same first second = let e : next ≡ base = omega arith in subst (λ n. Counts n ys) e second
  counts_both base next (x ∷ xs) ys same first second = (first.0, counts_both (base + 1) next xs ys (omega arith) first.1 second)

  pub counts_range : (base a n : ℕ) → ((i : ℕ) → i < n → key (a + i) ≡ base + i) → Counts base (range_with_len a n)
  counts_range base a zero at = tt
  counts_range base a (suc n) at = (
    let e : a + 0 ≡ a = omega arith in ap key (sym e) ∙ at 0 (omega arith) ∙ omega arith,
    counts_range (base + 1) (a + 1) n
        (λ i low. let e : a + 1 + i ≡ a + (i + 1) = omega arith in ap key e ∙ at (i + 1) (omega arith) ∙ omega arith),
  )
