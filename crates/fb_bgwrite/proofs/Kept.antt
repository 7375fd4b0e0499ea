-- What is kept by angle stays what is pending as blocks are registered and written.
use Rattle.std.specs.BTreeMap.{BTreeMap, UpdatesBy, get, is_at}
use Rattle.std.specs.Global.{Global}
use Rattle.std.specs.Ordering.{nat_cmp}
use Rattle.std.specs.Prelude.{IfSome, Vec}
use Rattle.std.proofs.lemmas.Bool.{eqb-true}
use Rattle.fb_units.proofs.Tracks.{same_tracks, track_itself}
use Rattle.std.proofs.lemmas.Option.{none-some}
use Rattle.fb_wanted.specs.Numbering.{AreInOrder}
use Rattle.fb_bgwrite.specs.ByAngle.{key_of, over_pending, AreKept, AreSpots, HaveOneMore, IsKeptWith, LackOne}
use Rattle.fb_bgwrite.specs.declared.spots.Spot.{Spot}
use Rattle.fb_bgwrite.proofs.Words.{◌≡◌, ℕ, zero, suc, ◌+◌, ◌*◌, ◌^◌, ◌<◌, ◌≤◌, ◌==◌, ◌&&◌, ◌∙◌, ◌∷◌, ◌++◌, [], List}
use Rattle.fb_bgwrite.proofs.Words.{Bool, true, false, Option, Some, None, inl, inr, refl, sym, ap, subst, arith, slice_get, filter, length}
use Rattle.fb_bgwrite.proofs.Words.{if◌then◌else◌, sum_by, sum_by-cons, cases_Bool, Sweep, Track, same_track}
use Rattle.fb_bgwrite.proofs.Words.{Block, Entry, Deliver, Wanted, after, blocks_of, entry_after, is_block}
use Rattle.fb_bgwrite.proofs.Words.{is_wanted, on_track, some_one, wanted_of, wanted_entry}

-- ---- a block is told apart by its put and its number there

abbrev hit : ℕ → ℕ → Block → Bool
hit put number b = (b.task == put) && (b.index == number)

both_tests : (p q : Block → Bool) (bs : List Block) → filter q (filter p bs) ≡ filter (λ b. p b && q b) bs
both_tests p q [] = refl
both_tests p q (b ∷ bs) = elim (cases_Bool (p b)) [
  | inl t ↦ rw t (ap (λ l. if q b then b ∷ l else l) (both_tests p q bs))
  | inr f ↦ rw f (both_tests p q bs)
]

-- a number stands once among numbers that go up one by one
once : (number from : ℕ) (bs : List Block) → ((k : ℕ) (b : Block) → slice_get bs k ≡ Some b → b.index ≡ from + k)
    → (length (filter (λ b. b.index == number) bs) ≤ 1) × (number < from → length (filter (λ b. b.index == number) bs) ≤ 0)
once number from [] up = (omega arith, λ less. omega arith)
once number from (b ∷ bs) up =
    let rest = once number (suc from) bs (λ k c at. omega (arith, up (suc k) c at)) in
    let here : b.index ≡ from = omega (arith, up 0 b refl) in
    elim (cases_Bool (b.index == number)) [
      | inl t ↦
          let same : b.index ≡ number = eqb-true b.index number t in
          let none = rest.1 (omega arith) in
          rw t (omega (arith, none), λ less. absurd (omega (arith, less)))
      | inr f ↦ rw f (rest.0, λ less. rest.1 (omega (arith, less)))
    ]

hit_once : (put number : ℕ) (bs : List Block) → AreInOrder bs → length (filter (hit put number) bs) ≤ 1
hit_once put number bs numbers = subst (λ l. length l ≤ 1) (both_tests (λ b. b.task == put) (λ b. b.index == number) bs)
    (once number 0 (filter (λ b. b.task == put) bs) (λ k b at. omega (arith, numbers put k b at))).0

-- ---- what is pending of a track

-- what an entry adds there
abbrev adds_on : (Block → ℕ) → Track → Entry → ℕ
adds_on f t e = if same_track t e.block.track && is_wanted e.state then f e.block else 0

abbrev sum_on : (Block → ℕ) → Track → List Entry → ℕ
sum_on f t es = sum_by f (wanted_of (on_track t es))

one_more_on : (f : Block → ℕ) (t : Track) (e : Entry) (es : List Entry) → sum_on f t (e ∷ es) ≡ adds_on f t e + sum_on f t es
one_more_on f t e es = elim (cases_Bool (same_track t e.block.track)) [
  | inl s ↦ elim (cases_Bool (is_wanted e.state)) [
    | inl w ↦ rw (s, w) (sum_by-cons f e.block (wanted_of (on_track t es)))
    | inr n ↦ rw (s, n) (omega arith)
  ]
  | inr o ↦ rw o (omega arith)
]

pub pushed_on : (f : Block → ℕ) (t : Track) (es : List Entry) (e : Entry) → sum_on f t (es ++ e ∷ []) ≡ sum_on f t es + adds_on f t e
pushed_on f t [] e = omega (arith, one_more_on f t e [])
pushed_on f t (x ∷ es) e = omega (arith, one_more_on f t x (es ++ e ∷ []), one_more_on f t x es, pushed_on f t es e)

module _ (put number : ℕ) (f : Block → ℕ) (t : Track) where
  -- what it no longer adds once the block is written
  abbrev lost : Entry → ℕ
  lost e = if hit put number e.block then adds_on f t e else 0

  loses : (e : Entry) → adds_on f t (entry_after put (Deliver number) e) + lost e ≡ adds_on f t e
  loses e = elim (cases_Bool (same_track t e.block.track)) [
    | inl s ↦ elim (cases_Bool (e.block.task == put)) [
      | inl own ↦ elim (cases_Bool (e.block.index == number)) [
        | inl this ↦ rw (s, own, this) (omega arith)
        | inr other ↦ rw (s, own, other) (omega arith)
      ]
      | inr other ↦ rw (s, other) (omega arith)
    ]
    | inr o ↦ elim (cases_Bool (hit put number e.block)) [
      | inl h ↦ rw (o, h) (omega arith)
      | inr n ↦ rw (o, n) (omega arith)
    ]
  ]

  all_lose : (es : List Entry) → sum_on f t (after put (Deliver number) es) + sum_by lost es ≡ sum_on f t es
  all_lose [] = refl
  all_lose (e ∷ es) = omega (
    arith,
    one_more_on f t (entry_after put (Deliver number) e) (after put (Deliver number) es),
    one_more_on f t e es,
    sum_by-cons lost e es,
    loses e,
    all_lose es,
  )

  none_lost : (es : List Entry) → length (filter (hit put number) (blocks_of es)) ≤ 0 → sum_by lost es ≡ 0
  none_lost [] none = refl
  none_lost (e ∷ es) none = elim (cases_Bool (hit put number e.block)) [
    | inl h ↦ absurd (omega (arith, ap length (counted h), none))
    | inr n ↦
        let rest : length (filter (hit put number) (blocks_of es)) ≤ 0 = rw n at none in
        let here : lost e ≡ 0 = rw n refl in
        omega (arith, sum_by-cons lost e es, here, none_lost es rest)
  ]
    where
      counted : hit put number e.block ≡ true
          → filter (hit put number) (blocks_of (e ∷ es)) ≡ e.block ∷ filter (hit put number) (blocks_of es)
      counted h = rw h refl

  some_hit : (es : List Entry) (i : ℕ) (e : Entry) → slice_get es i ≡ Some e → hit put number e.block ≡ true
      → 0 < length (filter (hit put number) (blocks_of es))
  some_hit [] zero e at h = absurd (grind arith)
  some_hit [] (suc i) e at h = absurd (grind arith)
  some_hit (x ∷ es) zero e at h = rw (ap (λ (y : Entry). hit put number y.block) (some_one x e at) ∙ h) (omega arith)
  some_hit (x ∷ es) (suc i) e at h = elim (cases_Bool (hit put number x.block)) [
    | inl y ↦ rw y (omega arith)
    | inr n ↦ rw n (some_hit es i e at h)
  ]

  one_lost : (es : List Entry) (i : ℕ) (e : Entry) → slice_get es i ≡ Some e → hit put number e.block ≡ true
      → length (filter (hit put number) (blocks_of es)) ≤ 1 → sum_by lost es ≡ adds_on f t e
  one_lost [] zero e at h few = absurd (grind arith)
  one_lost [] (suc i) e at h few = absurd (grind arith)
  one_lost (x ∷ es) zero e at h few =
      let same : x ≡ e = some_one x e at in
      let own : hit put number x.block ≡ true = ap (λ (y : Entry). hit put number y.block) same ∙ h in
      let rest : suc (length (filter (hit put number) (blocks_of es))) ≤ 1 = rw own at few in
      let here : lost x ≡ adds_on f t x = rw own refl in
      omega (arith, sum_by-cons lost x es, here, ap (adds_on f t) same, none_lost es (omega (arith, rest)))
  one_lost (x ∷ es) (suc i) e at h few = elim (cases_Bool (hit put number x.block)) [
    | inl y ↦
        let rest : suc (length (filter (hit put number) (blocks_of es))) ≤ 1 = rw y at few in
        absurd (omega (arith, rest, some_hit es i e at h))
    | inr n ↦
        let rest : length (filter (hit put number) (blocks_of es)) ≤ 1 = rw n at few in
        let here : lost x ≡ 0 = rw n refl in
        omega (arith, sum_by-cons lost x es, here, one_lost es i e at h rest)
  ]

  pub delivered_on : (es : List Entry) (i : ℕ) (e : Entry) → AreInOrder (blocks_of es) → slice_get es i ≡ Some e
      → is_block put number e ≡ true → sum_on f t (after put (Deliver number) es) + adds_on f t e ≡ sum_on f t es
  delivered_on es i e numbers at h = omega (arith, all_lose es, one_lost es i e at h (hit_once put number (blocks_of es) numbers))

-- ---- what is kept

abbrev Kept : Type 0
Kept = BTreeMap ℕ (Vec Spot Global)

-- what was kept for a track
pub kept_for : (old : Kept) (track : Track) (entries : List Entry) (spots : Option (Vec Spot Global)) → track.head < 2 ^ 32
    → AreKept old entries → spots ≡ get nat_cmp old (key_of track) → IfSome spots (λ kept. AreSpots kept.items (on_track track entries))
kept_for old track entries None head kept is = tt
kept_for old track entries (Some spots) head kept is = kept track spots head (sym is)

one_of_key : (a b : Track) → a.head < 2 ^ 32 → b.head < 2 ^ 32 → key_of a ≡ key_of b → a ≡ b
one_of_key a b low high same =
    let cylinder : a.cylinder ≡ b.cylinder = omega (arith, low, high, same) in
    let head : a.head ≡ b.head = omega (arith, same, cylinder) in
    ap (λ (c : ℕ). record { cylinder = c; head = a.head }) cylinder ∙ ap (λ (h : ℕ). record { cylinder = b.cylinder; head = h }) head

-- the spots of a track are taken out, the blocks change on that track alone, and what is then right for it is kept again
module _ (old mid new : Kept) (track : Track) (spots : Option (Vec Spot Global)) (before later : List Entry)
    (head : track.head < 2 ^ 32) (kept : AreKept old before)
    (aside : UpdatesBy nat_cmp (nat_cmp (key_of track)) old mid None) (put : IsKeptWith mid new (key_of track) spots)
    (own : IfSome spots (λ s. AreSpots s.items (on_track track later)))
    (others : (other : Track) → same_track other track ≡ false → (measure : Sweep → ℕ → ℕ)
    → over_pending measure (on_track other before) ≡ over_pending measure (on_track other later)) where
  pub kept_again : AreKept new later
  kept_again t s low at = elim (put (key_of t) s at) [
    | inl was ↦ elim (cases_Bool (is_at (nat_cmp (key_of track)) (key_of t))) [
      | inl here ↦
          let gone : get nat_cmp mid (key_of t) ≡ None = rw here at (aside.0 (key_of t)) in
          absurd (none-some s (sym gone ∙ was))
      | inr there ↦ elim (cases_Bool (same_track t track)) [
        | inl same ↦
            let gone : get nat_cmp mid (key_of t) ≡ None = ap (λ x. get nat_cmp mid (key_of x)) (same_tracks t track same) ∙ aside.1 in
            absurd (none-some s (sym gone ∙ was))
        | inr different ↦
            let are = kept t s low (sym (aside.2 (key_of t) there) ∙ was) in
            record { its = λ measure. are.its measure ∙ others t different measure; by_angle = are.by_angle }
      ]
    ]
    | inr is ↦
        let same : t ≡ track = one_of_key t track low head is.0 in
        let its : AreSpots s.items (on_track track later) = subst (λ o. IfSome o (λ x. AreSpots x.items (on_track track later))) is.1 own in
        subst (λ x. AreSpots s.items (on_track x later)) (sym same) its
  ]

pub some_weaker : {X : Type 0} (P Q : X → Type 0) (found : Option X) → ((x : X) → P x → Q x) → IfSome found P → IfSome found Q
some_weaker P Q None more h = tt
some_weaker P Q (Some x) more h = more x h

-- ---- a block is registered

module _ (block : Block) (before later : List Entry) (is : later ≡ before ++ wanted_entry block ∷ []) where
  pub others_before : (other : Track) → same_track other block.track ≡ false → (measure : Sweep → ℕ → ℕ)
      → over_pending measure (on_track other before) ≡ over_pending measure (on_track other later)
  others_before other different measure =
      let f = λ (b : Block). measure b.sweep (b.weight * b.count) in
      let none : adds_on f other (wanted_entry block) ≡ 0 = rw different refl in
      omega (arith, pushed_on f other before (wanted_entry block), none, ap (sum_on f other) is)

  pub registered_lacks : (spots : List Spot) (spot : Spot) → spot.sweep ≡ block.sweep → spot.worth ≡ block.weight * block.count
      → AreSpots spots (on_track block.track before) → LackOne spots spot (on_track block.track later)
  registered_lacks spots spot sweep worth are = record {
    its = λ measure.
        let f = λ (b : Block). measure b.sweep (b.weight * b.count) in
        let one : adds_on f block.track (wanted_entry block) ≡ f block = rw (track_itself block.track) refl in
        let own : measure spot.sweep spot.worth ≡ f block = ap (λ s. measure s spot.worth) sweep ∙ ap (measure block.sweep) worth in
        omega (arith, pushed_on f block.track before (wanted_entry block), one, own, ap (sum_on f block.track) is, are.its measure);
    by_angle = are.by_angle;
  }

-- ---- a block is written

module _ (put number : ℕ) (own : Entry) (before later : List Entry) (is : later ≡ after put (Deliver number) before)
    (numbers : AreInOrder (blocks_of before)) (i : ℕ) (at : slice_get before i ≡ Some own) (this : is_block put number own ≡ true)
    (wanted : own.state ≡ Wanted) where
  pub others_after : (other : Track) → same_track other own.block.track ≡ false → (measure : Sweep → ℕ → ℕ)
      → over_pending measure (on_track other before) ≡ over_pending measure (on_track other later)
  others_after other different measure =
      let f = λ (b : Block). measure b.sweep (b.weight * b.count) in
      let none : adds_on f other own ≡ 0 = rw different refl in
      omega (arith, delivered_on put number f other before i own numbers at this, none, ap (sum_on f other) is)

  pub written_more : (spots : List Spot) → AreSpots spots (on_track own.block.track before)
      → HaveOneMore spots own.block.sweep (own.block.weight * own.block.count) (on_track own.block.track later)
  written_more spots are = record {
    its = λ measure.
        let f = λ (b : Block). measure b.sweep (b.weight * b.count) in
        let one : adds_on f own.block.track own ≡ f own.block = rw (track_itself own.block.track, wanted) refl in
        omega (
          arith,
          delivered_on put number f own.block.track before i own numbers at this,
          one,
          ap (sum_on f own.block.track) is,
          are.its measure,
        );
    by_angle = are.by_angle;
  }
