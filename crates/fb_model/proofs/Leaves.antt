-- For each leave from a track there is one of the few that are tried which is no later and catches as much.
use Rattle.fb_model.proofs.Words.{◌≡◌, ℕ, ◌+◌, ◌*◌, ◌≤◌, ◌⊎◌, inl, inr, List, [], ◌∷◌, Bool, true, false, Some, suc, nat_le, refl, arith}
use Rattle.fb_model.proofs.Words.{sym, ◌∙◌, sum_by, AllByRecursion, cases_lt, cases_Bool, nat_tests, sum_by-cons, Track, same_track, pos}
use Rattle.fb_model.proofs.Words.{Disk, Block, Gap, Plan, block_end, value}
use Rattle.std.proofs.Common.{◌&&◌, ◌||◌, slice_get}
use Rattle.std.proofs.Common.{filter}
use Rattle.fb_model.specs.Plans.{is_caught}
use Rattle.fb_model.proofs.Ends.{end-le, end-from-le}

-- the blocks whose passage from t on ends by u
abbrev pub passes : Disk → Track → ℕ → ℕ → Block → Bool
passes disk track t u block = same_track track block.track && nat_le (block_end disk.map block t) u

-- v stands for u: it is the arrival or the end of a passage, and no passage ends between
pub record StandsFor (disk : Disk) (track : Track) (t u : ℕ) (blocks : List Block) (v : ℕ) : Type 0 where
  pub from : t ≤ v
  pub upto : v ≤ u
  pub same : AllByRecursion (λ block. passes disk track t u block ≡ true → passes disk track t v block ≡ true) blocks
  pub tried : (v ≡ t) ⊎ ((i : ℕ) × (block : Block) × (slice_get blocks i ≡ Some block) × (same_track track block.track ≡ true)
      × (v ≡ block_end disk.map block t))

all_later : (disk : Disk) (track : Track) (t u v w : ℕ) (blocks : List Block) → v ≤ w
    → AllByRecursion (λ block. passes disk track t u block ≡ true → passes disk track t v block ≡ true) blocks
    → AllByRecursion (λ block. passes disk track t u block ≡ true → passes disk track t w block ≡ true) blocks
all_later disk track t u v w [] le h = tt
all_later disk track t u v w (b ∷ bs) le h = (λ k. let g = h.0 k in grind (arith, nat_tests), all_later disk track t u v w bs le h.1)

with_one : (disk : Disk) (track : Track) (t u : ℕ) (b : Block) (bs : List Block) → (v : ℕ) × StandsFor disk track t u bs v
    → (v : ℕ) × StandsFor disk track t u (b ∷ bs) v
with_one disk track t u b bs h = elim (cases_Bool (passes disk track t u b)) [
  | inl pass ↦ elim (cases_lt h.0 (block_end disk.map b t)) [
    | inl less ↦ (
      block_end disk.map b t,
      record {
        from = end-from-le disk.map b t;
        upto = grind (arith, nat_tests);
        same = (λ k. grind (arith, nat_tests), all_later disk track t u h.0 (block_end disk.map b t) bs (omega arith) h.1.same);
        tried = inr (0, b, refl, grind (arith, nat_tests), refl);
      },
    )
    | inr more ↦ (
      h.0,
      record {
        from = h.1.from;
        upto = h.1.upto;
        same = (λ k. grind (arith, nat_tests), h.1.same);
        tried = elim h.1.tried [ inl e ↦ inl e | inr q ↦ inr (suc q.0, q.1, q.2, q.3, q.4) ];
      },
    )
  ]
  | inr miss ↦ (
    h.0,
    record {
      from = h.1.from;
      upto = h.1.upto;
      same = (λ k. grind arith, h.1.same);
      tried = elim h.1.tried [ inl e ↦ inl e | inr q ↦ inr (suc q.0, q.1, q.2, q.3, q.4) ];
    },
  )
]

pub stands_for : (disk : Disk) (track : Track) (t u : ℕ) (blocks : List Block) → t ≤ u → (v : ℕ) × StandsFor disk track t u blocks v
stands_for disk track t u [] le = (t, record { from = omega arith; upto = le; same = tt; tried = inl refl })
stands_for disk track t u (b ∷ bs) le = with_one disk track t u b bs (stands_for disk track t u bs le)

either_true : (a b c d : Bool) → (a ≡ true → b ≡ true) → (c ≡ true → d ≡ true) → a || c ≡ true → b || d ≡ true
either_true true b c d f g h = rw (f refl) refl
either_true false true c d f g h = refl
either_true false false c d f g h = g h

-- what the two dwells of a plan catch, by the track of the early one, its beginning and the leave
abbrev pub covered : Disk → Gap → Track → ℕ → ℕ → Block → Bool
covered disk gap track begin u block = passes disk track begin u block
    || passes disk gap.target (u + pos disk.mechanism track gap.target gap.write) gap.deadline block

-- leaving later catches no more on the target
late-le : (disk : Disk) (gap : Gap) (way v u : ℕ) (block : Block) → v ≤ u
    → passes disk gap.target (u + way) gap.deadline block ≡ true → passes disk gap.target (v + way) gap.deadline block ≡ true
late-le disk gap way v u block le h =
    let e = end-le disk.map block (v + way) (u + way) disk.some_rotation (omega arith) in
    grind (arith, nat_tests)

-- a sum over more blocks is no less
pub sum-le : (f : Block → ℕ) (p q : Block → Bool) (bs : List Block) → AllByRecursion (λ b. p b ≡ true → q b ≡ true) bs
    → sum_by f (filter p bs) ≤ sum_by f (filter q bs)
sum-le f p q [] h = omega arith
sum-le f p q (b ∷ bs) h = elim (cases_Bool (p b)) [
  | inl yes' ↦ let e = h.0 yes' in
      rw (yes', e) (omega (arith, sum_by-cons f b (filter p bs), sum_by-cons f b (filter q bs), sum-le f p q bs h.1))
  | inr no' ↦ elim (cases_Bool (q b)) [
    | inl y ↦ rw (no', y) (omega (arith, sum_by-cons f b (filter q bs), sum-le f p q bs h.1))
    | inr n ↦ rw (no', n) (sum-le f p q bs h.1)
  ]
]

-- plans that differ by their leave alone
module _ (disk : Disk) (gap : Gap) (make : ℕ → Plan) (track : Track) (begin : ℕ)
    (by : (u : ℕ) (block : Block) → is_caught disk gap (make u) block ≡ covered disk gap track begin u block) where
  abbrev CaughtToo : ℕ → ℕ → List Block → Type 0
  CaughtToo u v blocks =
      AllByRecursion (λ block. is_caught disk gap (make u) block ≡ true → is_caught disk gap (make v) block ≡ true) blocks

  all_caught : (v u : ℕ) (blocks : List Block) → v ≤ u
      → AllByRecursion (λ block. passes disk track begin u block ≡ true → passes disk track begin v block ≡ true) blocks
      → CaughtToo u v blocks
  all_caught v u [] le h = tt
  all_caught v u (b ∷ bs) le h = (
    λ k. by v b ∙ either_true _ _ _ _ h.0 (late-le disk gap (pos disk.mechanism track gap.target gap.write) v u b le) (sym (by u b) ∙ k),
    all_caught v u bs le h.1,
  )

  values : (wanted : List Block) (v u : ℕ) → CaughtToo u v wanted → value disk gap wanted (make u) ≤ value disk gap wanted (make v)
  unfolding value
  values wanted v u h = sum-le (λ block. block.weight * block.count) (is_caught disk gap (make u)) (is_caught disk gap (make v)) wanted h

  -- of the leaves each has one that is tried, no later, and of no less value
  pub enough : (wanted : List Block) (u : ℕ) → begin ≤ u
      → (v : ℕ) × StandsFor disk track begin u wanted v × (value disk gap wanted (make u) ≤ value disk gap wanted (make v))
  enough wanted u le =
      let s = stands_for disk track begin u wanted le in
      (s.0, s.1, values wanted s.0 u (all_caught s.0 u wanted s.1.upto s.1.same))
