-- What is chosen of a track's wanted blocks is put in one order of delivery, in whatever order they are looked at.
use Rattle.fb_plan.proofs.Words.{◌≡◌, inl, inr, ℕ, suc, ◌+◌, ◌<◌, ◌≤◌, ◌==◌, List, [], ◌∷◌, ◌++◌, Bool, true, ◌&&◌, Some, slice_get}
use Rattle.fb_plan.proofs.Words.{filter, map, length, refl, arith, sym, ap, ◌∙◌, subst, if◌then◌else◌, cases_Bool, and_parts, and_from}
use Rattle.fb_plan.proofs.Words.{eqb-true, eq-eqb, filter-append, sum_by-cons, filter_from, filter_to, Track, same_track, Disk, Block}
use Rattle.fb_plan.proofs.Words.{Entry, blocks_of, is_wanted, on_track, wanted_of, Dwell, catches, Catch, in_order, catch_of, caught_of}
use Rattle.fb_plan.proofs.Words.{caught_among}
use Rattle.fb_wanted.specs.Numbering.{AreInOrder}
use Rattle.fb_wanted.specs.Offers.{AreSameBlocks}
use Rattle.fb_plan.proofs.Gains.{chosen-sum}
use Rattle.fb_plan.proofs.Offered.{entry-of}
use Rattle.fb_plan.proofs.Orders.{on_its_track}
use Rattle.fb_plan.proofs.Sorted.{tied, tied-numbers, same-in-order}

-- ---- the same blocks in some order, of which one at most passes a test

-- blocks that no measure tells apart are one
one-block : (x y : Block) → ((measure : Block → ℕ) → measure x ≡ measure y) → x ≡ y
one-block x y same = grind (
  arith,
  same (λ b. b.task),
  same (λ b. b.index),
  same (λ b. b.lbn),
  same (λ b. b.count),
  same (λ b. b.track.cylinder),
  same (λ b. b.track.head),
  same (λ b. b.weight),
  same (λ b. b.sweep.begin),
  same (λ b. b.sweep.length),
)

one-list : (xs ys : List Block) → AreSameBlocks xs ys → length ys ≤ 1 → xs ≡ ys
one-list [] [] same most = refl
one-list [] (y ∷ ys) same most = absurd (omega (arith, same (λ b. 1), sum_by-cons (λ (b : Block). 1) y ys))
one-list (x ∷ xs) [] same most = absurd (omega (arith, same (λ b. 1), sum_by-cons (λ (b : Block). 1) x xs))
one-list (x ∷ []) (y ∷ []) same most = ap (λ b. b ∷ []) (one-block x y (λ f. omega (arith, same f)))
one-list (x ∷ z ∷ xs) (y ∷ []) same most =
    absurd (omega (arith, same (λ b. 1), sum_by-cons (λ (b : Block). 1) x (z ∷ xs), sum_by-cons (λ (b : Block). 1) z xs))
one-list (x ∷ xs) (y ∷ z ∷ ys) same most = absurd (omega arith)

one-chosen : (p : Block → Bool) (xs ys : List Block) → AreSameBlocks xs ys → length (filter p ys) ≤ 1 → filter p xs ≡ filter p ys
one-chosen p xs ys same most = one-list (filter p xs) (filter p ys)
    (λ f. chosen-sum p f xs ∙ (same (λ b. if p b then f b else 0) ∙ sym (chosen-sum p f ys))) most

-- ---- registered blocks are told apart by task and number

abbrev numbered : ℕ → ℕ → Block → Bool
numbered task number b = (b.task == task) && (b.index == number)

both-tests : (p q : Block → Bool) (bs : List Block) → filter q (filter p bs) ≡ filter (λ b. p b && q b) bs
both-tests p q [] = refl
both-tests p q (b ∷ bs) = elim (cases_Bool (p b)) [
  | inl t ↦ rw t (ap (λ l. if q b then b ∷ l else l) (both-tests p q bs))
  | inr f ↦ rw f (both-tests p q bs)
]

-- a number stands once among numbers that go up one by one
once : (number from : ℕ) (bs : List Block) → ((k : ℕ) (b : Block) → slice_get bs k ≡ Some b → b.index ≡ from + k)
    → (length (filter (λ b. b.index == number) bs) ≤ 1) × (number < from → length (filter (λ b. b.index == number) bs) ≤ 0)
once number from [] up = (omega arith, λ less. omega arith)
once number from (b ∷ bs) up =
    let rest = once number (suc from) bs (λ k c at. omega (arith, up (suc k) c at)) in
    let here : b.index ≡ from = omega (arith, up 0 b refl) in
    elim (cases_Bool (b.index == number)) [
      | inl t ↦
          let same : b.index ≡ number = eqb-true b.index number t in
          let none = rest.1 (omega arith) in
          rw t (omega (arith, none), λ less. absurd (omega (arith, less)))
      | inr f ↦ rw f (rest.0, λ less. rest.1 (omega (arith, less)))
    ]

numbered-once : (bs : List Block) → AreInOrder bs → (task number : ℕ) → length (filter (numbered task number) bs) ≤ 1
numbered-once bs numbers task number = subst (λ l. length l ≤ 1) (both-tests (λ b. b.task == task) (λ b. b.index == number) bs)
    (once number 0 (filter (λ b. b.task == task) bs) (λ k b at. omega (arith, numbers task k b at))).0

-- of fewer entries no more blocks pass a narrower test
fewer : (p q : Block → Bool) (among : Entry → Bool) → ((b : Block) → p b ≡ true → q b ≡ true) → (es : List Entry)
    → length (filter p (blocks_of (filter among es))) ≤ length (filter q (blocks_of es))
fewer p q among narrow [] = omega arith
fewer p q among narrow (e ∷ es) = elim (cases_Bool (among e)) [
  | inl t ↦ elim (cases_Bool (p e.block)) [
    | inl y ↦ rw (t, y, narrow e.block y) (omega (arith, fewer p q among narrow es))
    | inr n ↦ elim (cases_Bool (q e.block)) [
      | inl z ↦ rw (t, n, z) (omega (arith, fewer p q among narrow es))
      | inr m ↦ rw (t, n, m) (fewer p q among narrow es)
    ]
  ]
  | inr f ↦ elim (cases_Bool (q e.block)) [
    | inl z ↦ rw (f, z) (omega (arith, fewer p q among narrow es))
    | inr m ↦ rw (f, m) (fewer p q among narrow es)
  ]
]

-- ---- what is chosen of them

through : (f : Block → Catch) (p : Block → Bool) (q : Catch → Bool) (bs : List Block)
    → filter q (map f (filter p bs)) ≡ map f (filter (λ b. p b && q (f b)) bs)
through f p q [] = refl
through f p q (b ∷ bs) = elim (cases_Bool (p b)) [
  | inl t ↦ elim (cases_Bool (q (f b))) [
    | inl y ↦ rw (t, y) (ap (λ l. f b ∷ l) (through f p q bs))
    | inr n ↦ rw (t, n) (through f p q bs)
  ]
  | inr n ↦ rw n (through f p q bs)
]

module _ (track : Track) (es xs : List Entry) (blocks : List Block) (numbers : AreInOrder (blocks_of es))
    (its : xs ≡ on_track track es) (same : AreSameBlocks blocks (wanted_of xs)) where
  -- of a test that one number passes at most, both lists have the same block
  the-one : (p : Block → Bool) (task number : ℕ) → ((b : Block) → p b ≡ true → numbered task number b ≡ true)
      → filter p blocks ≡ filter p (wanted_of (on_track track es))
  the-one p task number narrow =
      let few = fewer p (numbered task number) (λ e. is_wanted e.state) narrow (on_track track es) in
      let fewer_still = fewer (numbered task number) (numbered task number) (λ e. same_track track e.block.track) (λ b h. h) es in
      one-chosen p blocks (wanted_of (on_track track es)) (subst (λ l. AreSameBlocks blocks (wanted_of l)) its same)
      (omega (arith, few, fewer_still, numbered-once (blocks_of es) numbers task number))

  -- each block is on the track, and has what all registered ones have
  pub on-its-track : (P : Block → Type 0) → ((i : ℕ) (e : Entry) → slice_get es i ≡ Some e → P e.block) → (i : ℕ) (b : Block)
      → slice_get blocks i ≡ Some b → P b × (same_track track b.track ≡ true)
  on-its-track P each i b at =
      let itself = and_from (b.task == b.task) (b.index == b.index) (eq-eqb b.task b.task refl) (eq-eqb b.index b.index refl) in
      let among = filter_to (numbered b.task b.index) blocks i b at itself in
      let here = ap (λ l. slice_get l among.0) (sym (the-one (numbered b.task b.index) b.task b.index (λ c h. h))) ∙ among.1 in
      let there = filter_from (numbered b.task b.index) (wanted_of (on_track track es)) among.0 b here in
      let e = entry-of (on_track track es) there.0 b there.1 in
      let f = filter_from (λ (x : Entry). same_track track x.block.track) es e.0 e.1 e.2 in
      (subst P e.3 (each f.0 e.1 f.1), subst (λ (x : Block). same_track track x.track ≡ true) e.3 f.2)

  -- what those that pass a test add is put in the same order as what the track's wanted blocks add, in order of registration
  pub any-order : (found : List Catch) (f : Block → Catch) → ((b : Block) → (f b).block ≡ b) → (p : Block → Bool)
      → in_order (found ++ map f (filter p blocks)) ≡ in_order (found ++ map f (filter p (wanted_of (on_track track es))))
  any-order found f own p = same-in-order (found ++ added blocks) (found ++ added others) alike
    where
      others : List Block
      others = wanted_of (on_track track es)

      added : List Block → List Catch
      added bs = map f (filter p bs)

      narrow : (c : Catch) (b : Block) → p b && tied c (f b) ≡ true → numbered c.block.task c.block.index b ≡ true
      narrow c b h = subst (λ x. numbered c.block.task c.block.index x ≡ true) (own b)
          (tied-numbers c (f b) (and_parts (p b) (tied c (f b)) h).1)

      alike : (c : Catch) → filter (tied c) (found ++ added blocks) ≡ filter (tied c) (found ++ added others)
      alike c =
          let both = through f p (tied c) blocks
          ∙ (ap (map f) (the-one _ c.block.task c.block.index (narrow c)) ∙ sym (through f p (tied c) others)) in
          filter-append (tied c) found (added blocks)
          ∙ (ap (λ l. filter (tied c) found ++ l) both ∙ sym (filter-append (tied c) found (added others)))

-- what a dwell catches of its track's wanted blocks, in any order, is what it catches of all of them
pub caught-whole : (disk : Disk) (dwell : Dwell) (es xs : List Entry) (blocks : List Block) → AreInOrder (blocks_of es)
    → xs ≡ on_track dwell.track es → AreSameBlocks blocks (wanted_of xs)
    → in_order (caught_among disk dwell blocks) ≡ caught_of disk dwell (wanted_of es)
unfolding caught_of
caught-whole disk dwell es xs blocks numbers its same =
    any-order dwell.track es xs blocks numbers its same [] (catch_of disk dwell) (λ b. refl) (catches disk dwell)
    ∙ ap in_order (on_its_track disk dwell es)
