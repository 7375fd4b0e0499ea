-- Sectors that have a share of their own each are no more than the shares.
use Rattle.fb_detour.proofs.Words.{List, [], ap, arith, false, if◌then◌else◌, inl, inr, nat_lt, refl, suc, sym, true, zero, ℕ, ◌*◌, ◌+◌}
use Rattle.fb_detour.proofs.Words.{◌<◌, ◌==◌, ◌∙◌, ◌∷◌, ◌≡◌, ◌≤◌, ◌⊎◌, cases_Bool, cases_lt, nat_tests, sum_by-cons, mul-le, AllByRecursion}
use Rattle.fb_detour.proofs.Words.{sum_by, is_in, weight_on, Entry}

-- how many of n sectors from lbn on have a share, and how many have a lesser one
abbrev having : (ℕ → ℕ) → ℕ → ℕ → ℕ → ℕ
having share j lbn zero = 0
having share j lbn (suc n) = having share j lbn n + (if share (lbn + n) == j then 1 else 0)

abbrev below : (ℕ → ℕ) → ℕ → ℕ → ℕ → ℕ
below share m lbn zero = 0
below share m lbn (suc n) = below share m lbn n + (if nat_lt (share (lbn + n)) m then 1 else 0)

one_more : (x m : ℕ) → (if nat_lt x (suc m) then 1 else 0) ≡ (if nat_lt x m then 1 else 0) + (if x == m then 1 else 0)
one_more x m = grind (arith, nat_tests)

below-next : (share : ℕ → ℕ) (m lbn n : ℕ) → below share (suc m) lbn n ≡ below share m lbn n + having share m lbn n
below-next share m lbn zero = refl
below-next share m lbn (suc n) = omega (arith, below-next share m lbn n, one_more (share (lbn + n)) m)

below-none : (share : ℕ → ℕ) (lbn n : ℕ) → below share 0 lbn n ≡ 0
below-none share lbn zero = refl
below-none share lbn (suc n) = let none : nat_lt (share (lbn + n)) 0 ≡ false = grind (arith, nat_tests) in
    rw none (omega (arith, below-none share lbn n))

below-all : (share : ℕ → ℕ) (m lbn n : ℕ) → ((i : ℕ) → i < n → share (lbn + i) < m) → below share m lbn n ≡ n
below-all share m lbn zero all = refl
below-all share m lbn (suc n) all =
    let last = all n (omega arith) in
    let less : nat_lt (share (lbn + n)) m ≡ true = grind (arith, nat_tests) in
    rw less (omega (arith, below-all share m lbn n (λ i l. all i (omega (arith, l)))))

having-none : (share : ℕ → ℕ) (j lbn n : ℕ) → ((i : ℕ) → i < n → share (lbn + i) ≡ j → ⊥) → having share j lbn n ≡ 0
having-none share j lbn zero none = refl
having-none share j lbn (suc n) none =
    let last = none n (omega arith) in
    let other : (share (lbn + n) == j) ≡ false = grind (arith, nat_tests) in
    rw other (omega (arith, having-none share j lbn n (λ i l. none i (omega (arith, l)))))

-- no more than one where all that have the share are one
having-one : (share : ℕ → ℕ) (j lbn n s : ℕ) → ((i : ℕ) → i < n → share (lbn + i) ≡ j → lbn + i ≡ s) → having share j lbn n ≤ 1
having-one share j lbn zero s one = omega arith
having-one share j lbn (suc n) s one = elim (cases_Bool (share (lbn + n) == j)) [
  | inl here ↦
      let same : share (lbn + n) ≡ j = grind (arith, nat_tests) in
      let last = one n (omega arith) same in
      let before = having-none share j lbn n (λ i l e. absurd (omega (arith, l, last, one i (omega (arith, l)) e))) in
      rw here (omega (arith, before))
  | inr off ↦ rw off (omega (arith, having-one share j lbn n s (λ i l. one i (omega (arith, l)))))
]

one_of : (share : ℕ → ℕ) (j n s : ℕ) (e : Entry) → n ≤ e.block.count → ((i : ℕ) → i < n → share (e.block.lbn + i) ≡ j → e.block.lbn + i ≡ s)
    → e.block.weight * having share j e.block.lbn n ≤ weight_on s e
one_of share j n s e few one = elim (cases_Bool (is_in s e.block)) [
  | inl here ↦ rw here (omega (
    arith,
    mul-le e.block.weight (having share j e.block.lbn n) e.block.weight 1 (omega arith)
        (having-one share j e.block.lbn n s one),
  ))
  | inr off ↦
      let none = having-none share j e.block.lbn n (λ i l same. let at = one i l same in grind (arith, nat_tests)) in
      rw (off, none) (omega arith)
]

-- a sector of the stretch that has the share
find_in : (share : ℕ → ℕ) (j lbn n : ℕ) → ((i : ℕ) × (i < n) × (share (lbn + i) ≡ j)) ⊎ ((i : ℕ) → i < n → share (lbn + i) ≡ j → ⊥)
find_in share j lbn zero = inr (λ i l e. absurd (omega (arith, l)))
find_in share j lbn (suc n) = elim (cases_Bool (share (lbn + n) == j)) [
  | inl here ↦ inl (n, omega arith, grind (arith, nat_tests))
  | inr off ↦ elim (find_in share j lbn n) [
    | inl found ↦ inl (found.0, omega (arith, found.1), found.2)
    | inr none ↦ inr (λ i l e. elim (cases_lt i n) [
      | inl less ↦ none i less e
      | inr more ↦ let last : i ≡ n = omega (arith, l, more) in
          let same : share (lbn + n) ≡ j = ap (λ x. share (lbn + x)) (sym last) ∙ e in grind (arith, nat_tests)
    ])
  ]
]

-- each entry has so many sectors that count, and each of those a share of its own
module _ (counted : Entry → ℕ) (share : ℕ → ℕ) (Counts : ℕ → Type 0)
    (own : (a b : ℕ) → Counts a → Counts b → share a ≡ share b → a ≡ b) where
  abbrev pub AreCounted : List Entry → Type 0
  AreCounted es = AllByRecursion (λ e. (i : ℕ) → i < counted e → Counts (e.block.lbn + i)) es

  -- all that have the share are this one
  abbrev IsOnly : ℕ → ℕ → List Entry → Type 0
  IsOnly j s es = AllByRecursion (λ e. (i : ℕ) → i < counted e → share (e.block.lbn + i) ≡ j → e.block.lbn + i ≡ s) es

  with_one : (j s : ℕ) → Counts s → share s ≡ j → (es : List Entry) → AreCounted es → IsOnly j s es
  with_one j s is at [] all = tt
  with_one j s is at (e ∷ es) all = (λ i l same. own (e.block.lbn + i) s (all.0 i l) is (same ∙ sym at), with_one j s is at es all.1)

  only : (j : ℕ) (es : List Entry) → AreCounted es → (s : ℕ) × IsOnly j s es
  only j [] all = (0, tt)
  only j (e ∷ es) all = elim (find_in share j e.block.lbn (counted e)) [
    | inl found ↦ (e.block.lbn + found.0, with_one j (e.block.lbn + found.0) (all.0 found.0 found.1) found.2 (e ∷ es) all)
    | inr none ↦ let rest = only j es all.1 in (rest.0, (λ i l same. absurd (none i l same), rest.1))
  ]

  -- weight times the sectors that have this share, or a lesser one
  abbrev of_share : ℕ → Entry → ℕ
  of_share j e = e.block.weight * having share j e.block.lbn (counted e)

  abbrev of_lesser : ℕ → Entry → ℕ
  of_lesser m e = e.block.weight * below share m e.block.lbn (counted e)

  none_lesser : (es : List Entry) → sum_by (of_lesser 0) es ≡ 0
  none_lesser [] = refl
  none_lesser (e ∷ es) = omega (
    arith,
    sum_by-cons (of_lesser 0) e es,
    ap (λ n. e.block.weight * n) (below-none share e.block.lbn (counted e)),
    none_lesser es,
  )

  next_lesser : (m : ℕ) (es : List Entry) → sum_by (of_lesser (suc m)) es ≡ sum_by (of_lesser m) es + sum_by (of_share m) es
  next_lesser m [] = refl
  next_lesser m (e ∷ es) = omega (
    arith,
    sum_by-cons (of_lesser (suc m)) e es,
    sum_by-cons (of_lesser m) e es,
    sum_by-cons (of_share m) e es,
    ap (λ n. e.block.weight * n) (below-next share m e.block.lbn (counted e)),
    next_lesser m es,
  )

  all_lesser : (m : ℕ) → ((lbn : ℕ) → Counts lbn → share lbn < m) → (es : List Entry) → AreCounted es
      → sum_by (of_lesser m) es ≡ sum_by (λ e. e.block.weight * counted e) es
  all_lesser m under [] all = refl
  all_lesser m under (e ∷ es) all = omega (
    arith,
    sum_by-cons (of_lesser m) e es,
    sum_by-cons (λ x. x.block.weight * counted x) e es,
    ap (λ n. e.block.weight * n) (below-all share m e.block.lbn (counted e) (λ i l. under (e.block.lbn + i) (all.0 i l))),
    all_lesser m under es all.1,
  )

  module _ (few : (e : Entry) → counted e ≤ e.block.count) where
    one_share : (j s : ℕ) (es : List Entry) → IsOnly j s es → sum_by (of_share j) es ≤ sum_by (weight_on s) es
    one_share j s [] is = omega arith
    one_share j s (e ∷ es) is = omega (
      arith,
      sum_by-cons (of_share j) e es,
      sum_by-cons (weight_on s) e es,
      one_of share j (counted e) s e (few e) is.0,
      one_share j s es is.1,
    )

    lesser : (depth m : ℕ) (es : List Entry) → AreCounted es → ((lbn : ℕ) → sum_by (weight_on lbn) es ≤ depth)
        → sum_by (of_lesser m) es ≤ depth * m
    lesser depth zero es all deep = omega (arith, none_lesser es)
    lesser depth (suc m) es all deep =
        let here = only m es all in
        omega (arith, next_lesser m es, lesser depth m es all deep, one_share m here.0 es here.1, deep here.0)

    -- the sectors that count, each in blocks of so much weight, are no more than the shares
    pub no_more : (depth m : ℕ) (es : List Entry) → AreCounted es → ((lbn : ℕ) → Counts lbn → share lbn < m)
        → ((lbn : ℕ) → sum_by (weight_on lbn) es ≤ depth)
        → sum_by (λ e. e.block.weight * counted e) es ≤ depth * m
    no_more depth m es all under deep = omega (arith, all_lesser m under es all, lesser depth m es all deep)
