-- Sums over the wanted blocks of a track, or over any that pass a test.
use Rattle.fb_wanted.proofs.Words.{◌≡◌, ℕ, suc, ◌+◌, ◌*◌, ◌≤◌, inl, inr, List, [], ◌∷◌, ◌++◌, Some, Bool, true, false, length, filter}
use Rattle.fb_wanted.proofs.Words.{slice_get, refl, ap, ◌∙◌, arith, sum_by, cases_Bool, filter-append, sum_by-append, Track, same_track}
use Rattle.fb_wanted.proofs.Words.{Block, Entry, State, is_wanted, wanted_of, AreSmall, blocks_of, wanted_weight, is_of_track, with_state}
use Rattle.std.proofs.lemmas.Nat.{mul-le}
use Rattle.fb_wanted.proofs.Sums.{sum-with_state, sum_at}

pub wanted-append : (xs ys : List Entry) → wanted_of (xs ++ ys) ≡ wanted_of xs ++ wanted_of ys
wanted-append [] ys = refl
wanted-append (x ∷ xs) ys = elim (cases_Bool (is_wanted x.state)) [
  | inl yes' ↦ rw yes' (ap (λ l. x.block ∷ l) (wanted-append xs ys))
  | inr no' ↦ rw no' (wanted-append xs ys)
]

-- a sum over the wanted blocks that pass a test
abbrev pub sum_wanted : (Block → ℕ) → (Entry → Bool) → List Entry → ℕ
sum_wanted f p es = sum_by f (wanted_of (filter p es))

-- the sum of weight times sectors
abbrev weight_by : (Entry → Bool) → List Entry → ℕ
weight_by p es = sum_wanted (λ b. b.weight * b.count) p es

module _ (f : Block → ℕ) (p : Entry → Bool) where
  pub by-append : (xs ys : List Entry) → sum_wanted f p (xs ++ ys) ≡ sum_wanted f p xs + sum_wanted f p ys
  by-append xs ys =
      ap (λ l. sum_by f (wanted_of l)) (filter-append p xs ys)
      ∙ (ap (sum_by f) (wanted-append (filter p xs) (filter p ys)) ∙ sum_by-append f (wanted_of (filter p xs)) (wanted_of (filter p ys)))

  by-cons : (e : Entry) (es : List Entry) → sum_wanted f p (e ∷ es) ≡ sum_wanted f p (e ∷ []) + sum_wanted f p es
  by-cons e es = by-append (e ∷ []) es

  -- the sum loses the block's part before and gains its part after
  pub by-with_state : (s : State) (n : ℕ) (e : Entry) (es : List Entry) → slice_get es n ≡ Some e
      → sum_wanted f p (with_state s n es) + sum_wanted f p (e ∷ [])
      ≡ sum_wanted f p es + sum_wanted f p (record { block = e.block; state = s } ∷ [])
  by-with_state s n e es at = sum-with_state (sum_wanted f p) by-cons s n e es at

  pub by_elsewhere : (e : Entry) → p e ≡ false → sum_wanted f p (e ∷ []) ≡ 0
  by_elsewhere e other = rw other refl

  by_at : (n : ℕ) (e : Entry) (es : List Entry) → slice_get es n ≡ Some e → sum_wanted f p (e ∷ []) ≤ sum_wanted f p es
  by_at n e es at = sum_at (sum_wanted f p) by-cons n e es at

-- a block that isn't wanted adds nothing
pub by_unwanted : (f : Block → ℕ) (p : Entry → Bool) (e : Entry) → is_wanted e.state ≡ false → sum_wanted f p (e ∷ []) ≡ 0
by_unwanted f p e un = elim (cases_Bool (p e)) [ inl on ↦ rw (on, un) refl | inr off ↦ rw off refl ]

pub by_wanted : (f : Block → ℕ) (p : Entry → Bool) (e : Entry) → p e ≡ true → is_wanted e.state ≡ true → sum_wanted f p (e ∷ []) ≡ f e.block
by_wanted f p e on yes' = rw (on, yes') (omega arith)

module _ (p : Entry → Bool) where
  by_small : (e : Entry) → e.block.weight ≤ 1000 → e.block.count ≤ 2048 → weight_by p (e ∷ []) ≤ 2048000
  by_small e light short = elim (cases_Bool (p e)) [
    | inl on ↦ elim (cases_Bool (is_wanted e.state)) [
      | inl yes' ↦ rw (on, yes') (omega (arith, mul-le e.block.weight e.block.count 1000 2048 light short))
      | inr no' ↦ rw (on, no') (omega arith)
    ]
    | inr off ↦ rw off (omega arith)
  ]

  by-le : (es : List Entry) → AreSmall (blocks_of es) → weight_by p es ≤ 2048000 * length es
  by-le [] h = omega arith
  by-le (e ∷ es) h =
      let small = h 0 e.block refl in
      let one = by_small e small.0 small.1 in
      let rest = by-le es (λ i b at. h (suc i) b at) in
      omega (arith, by-cons (λ (b : Block). b.weight * b.count) p e es, one, rest)

-- the wanted weight of a track over two lists is the sum of both
pub weight-append : (t : Track) (xs ys : List Entry) → wanted_weight t (xs ++ ys) ≡ wanted_weight t xs + wanted_weight t ys
weight-append t xs ys = by-append (λ (b : Block). b.weight * b.count) (is_of_track t) xs ys

pub weight-with_state : (t : Track) (s : State) (n : ℕ) (e : Entry) (es : List Entry) → slice_get es n ≡ Some e
    → wanted_weight t (with_state s n es) + wanted_weight t (e ∷ [])
    ≡ wanted_weight t es + wanted_weight t (record { block = e.block; state = s } ∷ [])
weight-with_state t s n e es at = by-with_state (λ (b : Block). b.weight * b.count) (is_of_track t) s n e es at

pub weight_elsewhere : (t : Track) (e : Entry) → same_track t e.block.track ≡ false → wanted_weight t (e ∷ []) ≡ 0
weight_elsewhere t e other = by_elsewhere (λ (b : Block). b.weight * b.count) (is_of_track t) e other

pub weight_unwanted : (t : Track) (e : Entry) → is_wanted e.state ≡ false → wanted_weight t (e ∷ []) ≡ 0
weight_unwanted t e un = by_unwanted (λ (b : Block). b.weight * b.count) (is_of_track t) e un

pub weight_at : (t : Track) (n : ℕ) (e : Entry) (es : List Entry) → slice_get es n ≡ Some e → wanted_weight t (e ∷ []) ≤ wanted_weight t es
weight_at t n e es at = by_at (λ (b : Block). b.weight * b.count) (is_of_track t) n e es at

pub weight-le : (t : Track) (es : List Entry) → AreSmall (blocks_of es) → wanted_weight t es ≤ 2048000 * length es
weight-le t es h = by-le (is_of_track t) es h
