-- The value of a plan is what the blocks of its two tracks add.
use Rattle.fb_plan.proofs.Words.{◌≡◌, inl, inr, ℕ, ◌+◌, ◌*◌, List, [], ◌∷◌, Bool, true, false, ◌&&◌, ◌||◌, filter, refl, arith, sym, ap}
use Rattle.fb_plan.proofs.Words.{◌∙◌, if◌then◌else◌, subst, sum_by, cases_Bool, nat_tests, sum_by-cons, Track, same_track, Disk, Block}
use Rattle.fb_plan.proofs.Words.{Entry, is_wanted, on_track, wanted_of, Gap, Plan, Direct, Detour, Dwell, catches, is_caught, value}
use Rattle.fb_plan.proofs.Words.{early_dwell, late_dwell}
use Rattle.std.proofs.Math.Bool.{and-false}
use Rattle.std.proofs.lemmas.Bool.{true≢false}
use Rattle.fb_plan.specs.Ways.{gain, track_of}

-- what an entry adds, if it's wanted and its block passes the test
abbrev pub adds : (Block → Bool) → Entry → ℕ
adds c e = if is_wanted e.state && c e.block then e.block.weight * e.block.count else 0

-- a sum over those that pass a test
pub chosen-sum : {X : Type 0} (p : X → Bool) (f : X → ℕ) (xs : List X)
    → sum_by f (filter p xs) ≡ sum_by (λ x. if p x then f x else 0) xs
chosen-sum p f [] = refl
chosen-sum p f (x ∷ xs) = elim (cases_Bool (p x)) [
  | inl yes' ↦
      let left : sum_by f (filter p (x ∷ xs)) ≡ f x + sum_by f (filter p xs) = rw yes' (sum_by-cons f x (filter p xs)) in
      let one : (if p x then f x else 0) ≡ f x = rw yes' refl in
      omega (arith, left, sum_by-cons (λ y. if p y then f y else 0) x xs, one, chosen-sum p f xs)
  | inr no' ↦
      let left : sum_by f (filter p (x ∷ xs)) ≡ sum_by f (filter p xs) = rw no' refl in
      let one : (if p x then f x else 0) ≡ 0 = rw no' refl in
      omega (arith, left, sum_by-cons (λ y. if p y then f y else 0) x xs, one, chosen-sum p f xs)
]

-- what a wanted block adds, if it passes the test
abbrev pub given : (Block → Bool) → Block → ℕ
given c b = if c b then b.weight * b.count else 0

-- the wanted blocks that pass a test add what their entries do
pub of-wanted : (c : Block → Bool) (es : List Entry) → sum_by (given c) (wanted_of es) ≡ sum_by (adds c) es
of-wanted c [] = refl
of-wanted c (e ∷ es) = elim (cases_Bool (is_wanted e.state)) [
  | inl w ↦
      let left : sum_by (given c) (wanted_of (e ∷ es)) ≡ given c e.block + sum_by (given c) (wanted_of es) =
      rw w (sum_by-cons (given c) e.block (wanted_of es)) in
      let one : adds c e ≡ given c e.block = rw w refl in
      omega (arith, left, sum_by-cons (adds c) e es, one, of-wanted c es)
  | inr n ↦
      let left : sum_by (given c) (wanted_of (e ∷ es)) ≡ sum_by (given c) (wanted_of es) = rw n refl in
      let one : adds c e ≡ 0 = rw n refl in
      omega (arith, left, sum_by-cons (adds c) e es, one, of-wanted c es)
]

pub value-gain : (disk : Disk) (gap : Gap) (plan : Plan) (es : List Entry)
    → value disk gap (wanted_of es) plan ≡ sum_by (gain disk gap plan) es
unfolding value
value-gain disk gap plan es =
    chosen-sum (is_caught disk gap plan) (λ b. b.weight * b.count) (wanted_of es) ∙ of-wanted (is_caught disk gap plan) es

-- a sum needs only those that add to it
pub one_part : (g : Entry → ℕ) (p : Entry → Bool) → ((e : Entry) → p e ≡ false → g e ≡ 0) → (es : List Entry)
    → sum_by g es ≡ sum_by g (filter p es)
one_part g p none [] = refl
one_part g p none (e ∷ es) = elim (cases_Bool (p e)) [
  | inl y ↦ rw y (omega (arith, sum_by-cons g e es, sum_by-cons g e (filter p es), one_part g p none es))
  | inr n ↦ rw n (omega (arith, sum_by-cons g e es, none e n, one_part g p none es))
]

two_parts : (g : Entry → ℕ) (p q : Entry → Bool) → ((e : Entry) → p e ≡ true → q e ≡ true → ⊥)
    → ((e : Entry) → p e ≡ false → q e ≡ false → g e ≡ 0) → (es : List Entry)
    → sum_by g es ≡ sum_by g (filter p es) + sum_by g (filter q es)
two_parts g p q apart none [] = refl
two_parts g p q apart none (e ∷ es) = elim (cases_Bool (p e)) [
  | inl y ↦ elim (cases_Bool (q e)) [
    | inl z ↦ absurd (apart e y z)
    | inr z ↦ rw (y, z) (omega (arith, sum_by-cons g e es, sum_by-cons g e (filter p es), two_parts g p q apart none es))
  ]
  | inr n ↦ elim (cases_Bool (q e)) [
    | inl z ↦ rw (n, z) (omega (arith, sum_by-cons g e es, sum_by-cons g e (filter q es), two_parts g p q apart none es))
    | inr z ↦ rw (n, z) (omega (arith, sum_by-cons g e es, none e n z, two_parts g p q apart none es))
  ]
]

not_caught : (disk : Disk) (gap : Gap) (plan : Plan) (b : Block) → same_track (track_of gap plan) b.track ≡ false
    → same_track gap.target b.track ≡ false → is_caught disk gap plan b ≡ false
not_caught disk gap (Direct u) b h k = rw (h, k) refl
not_caught disk gap (Detour c u) b h k = rw (h, k) refl

no_gain : (disk : Disk) (gap : Gap) (plan : Plan) (e : Entry) → same_track (track_of gap plan) e.block.track ≡ false
    → same_track gap.target e.block.track ≡ false → gain disk gap plan e ≡ 0
no_gain disk gap plan e h k = rw (not_caught disk gap plan e.block h k, and-false (is_wanted e.state)) refl

-- tracks are told apart by their numbers
pub track_of_both : (a b x : Track) → same_track a x ≡ true → same_track b x ≡ true → same_track a b ≡ true
track_of_both a b x h k = grind (arith, nat_tests)

pub track_over : (a b x : Track) → same_track a b ≡ true → same_track a x ≡ false → same_track b x ≡ false
track_over a b x h k = grind (arith, nat_tests)

pub value-one : (disk : Disk) (gap : Gap) (plan : Plan) (es : List Entry) → same_track (track_of gap plan) gap.target ≡ true
    → value disk gap (wanted_of es) plan ≡ sum_by (gain disk gap plan) (on_track (track_of gap plan) es)
value-one disk gap plan es same = value-gain disk gap plan es
    ∙ one_part (gain disk gap plan) (λ e. same_track (track_of gap plan) e.block.track)
    (λ e n. no_gain disk gap plan e n (track_over (track_of gap plan) gap.target e.block.track same n)) es

pub value-two : (disk : Disk) (gap : Gap) (plan : Plan) (es : List Entry) → same_track (track_of gap plan) gap.target ≡ false
    → value disk gap (wanted_of es) plan
    ≡ sum_by (gain disk gap plan) (on_track (track_of gap plan) es) + sum_by (gain disk gap plan) (on_track gap.target es)
value-two disk gap plan es other = value-gain disk gap plan es
    ∙ two_parts (gain disk gap plan) (λ e. same_track (track_of gap plan) e.block.track) (λ e. same_track gap.target e.block.track)
    (λ e y z. true≢false (sym (track_of_both (track_of gap plan) gap.target e.block.track y z) ∙ other))
    (λ e n z. no_gain disk gap plan e n z) es

pub sum-one : (disk : Disk) (gap : Gap) (plan : Plan) (es : List Entry) (track : Track) (sum : ℕ) → track ≡ track_of gap plan
    → same_track track gap.target ≡ true
    → sum ≡ sum_by (gain disk gap plan) (on_track track es) → sum ≡ value disk gap (wanted_of es) plan
sum-one disk gap plan es track sum e same s =
    s ∙ (ap (λ t. sum_by (gain disk gap plan) (on_track t es)) e
    ∙ sym (value-one disk gap plan es (subst (λ t. same_track t gap.target ≡ true) e same)))

pub sum-two : (disk : Disk) (gap : Gap) (plan : Plan) (es : List Entry) (track : Track) (sum other : ℕ) → track ≡ track_of gap plan
    → same_track track gap.target ≡ false
    → sum ≡ sum_by (gain disk gap plan) (on_track track es) → other ≡ sum_by (gain disk gap plan) (on_track gap.target es)
    → sum + other ≡ value disk gap (wanted_of es) plan
sum-two disk gap plan es track sum other e apart s o =
    let two = value-two disk gap plan es (subst (λ t. same_track t gap.target ≡ false) e apart) in
    let first = s ∙ ap (λ t. sum_by (gain disk gap plan) (on_track t es)) e in
    omega (arith, two, first, o)

-- what a registered block adds to the value of a plan with these two dwells
abbrev pub gain_by : Disk → Dwell → Dwell → Entry → ℕ
gain_by disk early late entry = adds (λ b. catches disk early b || catches disk late b) entry

own-track : (disk : Disk) (gap : Gap) (plan : Plan) → (early_dwell disk gap plan).track ≡ track_of gap plan
own-track disk gap (Direct u) = refl
own-track disk gap (Detour c u) = refl

module _ (disk : Disk) (gap : Gap) (plan : Plan) (es : List Entry) (early late : Dwell) (p : early ≡ early_dwell disk gap plan)
    (q : late ≡ late_dwell disk gap plan) where
  by-dwells : (xs ys : List Entry) (sum : ℕ) → xs ≡ ys → sum ≡ sum_by (gain_by disk early late) xs → sum ≡ sum_by (gain disk gap plan) ys
  by-dwells xs ys sum same s = s
      ∙ (ap (λ d. sum_by (gain_by disk d late) xs) p
      ∙ (ap (λ d. sum_by (gain_by disk (early_dwell disk gap plan) d) xs) q ∙ ap (sum_by (gain disk gap plan)) same))

  its-track : early.track ≡ track_of gap plan
  its-track = ap (λ (d : Dwell). d.track) p ∙ own-track disk gap plan

  its-blocks : (xs : List Entry) → xs ≡ on_track (early_dwell disk gap plan).track es → xs ≡ on_track early.track es
  its-blocks xs same = same ∙ ap (λ (d : Dwell). on_track d.track es) (sym p)

  -- a plan's value by the blocks of one track, or of both
  pub value-by-one : (xs : List Entry) (sum : ℕ) → xs ≡ on_track (early_dwell disk gap plan).track es
      → same_track early.track gap.target ≡ true
      → sum ≡ sum_by (gain_by disk early late) xs → sum ≡ value disk gap (wanted_of es) plan
  value-by-one xs sum same one s =
      sum-one disk gap plan es early.track sum its-track one (by-dwells xs (on_track early.track es) sum (its-blocks xs same) s)

  pub value-by-two : (xs ys : List Entry) (sum other : ℕ) → xs ≡ on_track (early_dwell disk gap plan).track es → ys ≡ on_track gap.target es
      → same_track early.track gap.target ≡ false
      → sum ≡ sum_by (gain_by disk early late) xs → other ≡ sum_by (gain_by disk early late) ys
      → sum + other ≡ value disk gap (wanted_of es) plan
  value-by-two xs ys sum other same target two s o = sum-two disk gap plan es early.track sum other its-track two
      (by-dwells xs (on_track early.track es) sum (its-blocks xs same) s) (by-dwells ys (on_track gap.target es) other target o)
