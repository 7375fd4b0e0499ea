-- What the best so far has passed.
use Rattle.fb_plan.proofs.Words.{◌≡◌, inl, inr, ℕ, ◌+◌, ◌<◌, ◌≤◌, List, true, Some, slice_get, get_or, length, arith, sym, ap, ◌∙◌, subst}
use Rattle.fb_plan.proofs.Words.{slice_get_within, slice_get-get_or, same_Some, filter_to, Track, same_track, cylinders_of, Disk, Block}
use Rattle.fb_plan.proofs.Words.{Entry, Offer, AreOffers, is_wanted, on_track, wanted_of, Dwell, Gap, Plan, Direct, Detour, block_end}
use Rattle.fb_plan.proofs.Words.{value, early_dwell, IsPlan, Way, Source, Over, Turning, plan_by, early_track, arrival, AreOnDisk}
use Rattle.fb_plan.proofs.Words.{IsNoWorse, Sides, AreSides, IsTurning, end_of, no_worse-trans}
use Rattle.std.proofs.lemmas.Bool.{cases_lt}
use Rattle.fb_model.specs.Plans.{IsDetour}
use Rattle.fb_plan.specs.Ways.{move_on}
use Rattle.fb_plan.specs.Turns.{longest_stay}
use Rattle.fb_plan.proofs.Enough.{enough}
use Rattle.fb_plan.proofs.Offered.{entry-of, offer-of, wanted-at}
use Rattle.fb_plan.proofs.Swept.{turning-end}
use Rattle.fb_model.proofs.Ties.{no_worse-self}
use Rattle.fb_plan.proofs.Ties.{later-leave}

-- a wanted block of the track is among its entries
in_track : (track : Track) (es : List Entry) (i : ℕ) (b : Block) → slice_get (wanted_of es) i ≡ Some b → same_track track b.track ≡ true
    → (k : ℕ) × (e : Entry) × (slice_get (on_track track es) k ≡ Some e) × (e.block ≡ b) × (is_wanted e.state ≡ true)
in_track track es i b at on =
    let r = entry-of es i b at in
    let here = ap (λ (x : Block). same_track track x.track) r.3 ∙ on in
    let k = filter_to (λ (x : Entry). same_track track x.block.track) es r.0 r.1 r.2 here in
    (k.0, r.1, k.1, r.3, r.4)

pub bounds : (disk : Disk) (gap : Gap) (way : Way) (u : ℕ) → IsPlan disk gap (plan_by way u)
    → (arrival disk gap way ≤ u) × (u + move_on disk gap way ≤ gap.deadline)
bounds disk gap Source u is = is
bounds disk gap (Over track) u is = (is.after_arrival, is.in_time)

pub leave-no_worse : (disk : Disk) (gap : Gap) (wanted : List Block) (way : Way) (v u : ℕ) → v ≤ u
    → value disk gap wanted (plan_by way u) ≤ value disk gap wanted (plan_by way v)
    → IsNoWorse disk gap wanted (plan_by way v) (plan_by way u)
leave-no_worse disk gap wanted way v u le values =
    elim (cases_lt (value disk gap wanted (plan_by way u)) (value disk gap wanted (plan_by way v))) [
      | inl l ↦ inl l
      | inr m ↦ inr (omega arith, later-leave way v u le)
    ]

-- all leaves of a way, when the arrival and the ends of passages were tried
pub all_leaves : (disk : Disk) (gap : Gap) (way : Way) (es : List Entry) (best : Plan) (u : ℕ)
    → IsNoWorse disk gap (wanted_of es) best (plan_by way (arrival disk gap way))
    → ((k : ℕ) (e : Entry) → slice_get (on_track (early_track gap way) es) k ≡ Some e → is_wanted e.state ≡ true
    → block_end disk.map e.block (arrival disk gap way) + move_on disk gap way ≤ gap.deadline
    → IsNoWorse disk gap (wanted_of es) best (plan_by way (block_end disk.map e.block (arrival disk gap way))))
    → IsPlan disk gap (plan_by way u) → IsNoWorse disk gap (wanted_of es) best (plan_by way u)
all_leaves disk gap way es best u first each is =
    let w = bounds disk gap way u is in
    let v = enough disk gap way (wanted_of es) u w.0 in
    let better : IsNoWorse disk gap (wanted_of es) best (plan_by way v.0) = elim v.1.tried [
      | inl e ↦ subst (λ x. IsNoWorse disk gap (wanted_of es) best (plan_by way x)) (sym e) first
      | inr q ↦
          let k = in_track (early_track gap way) es q.0 q.1 q.2 q.3 in
          let end : block_end disk.map k.1.block (arrival disk gap way) ≡ v.0 = ap (λ b. block_end disk.map b (arrival disk gap way)) k.3
          ∙ sym q.4 in
          subst (λ x. IsNoWorse disk gap (wanted_of es) best (plan_by way x)) end (each k.0 k.1 k.2 k.4 (omega (arith, w.1, v.1.upto, end)))
    ] in
    no_worse-trans disk gap (wanted_of es) best (plan_by way v.0) (plan_by way u) better
    (leave-no_worse disk gap (wanted_of es) way v.0 u v.1.upto v.2)

-- when the head leaves as the sweep of an offer ends
abbrev pub leave_at : Turning → Offer → ℕ
leave_at turning offer = end_of turning.rotation offer.sweep turning.from

-- of the first offers, so many, each leave that is in time is no better than this plan
abbrev pub AreTried : Disk → Gap → Way → List Block → Turning → List Offer → ℕ → Plan → Type 0
AreTried disk gap way wanted turning offers n best = (k : ℕ) (o : Offer) → k < n → slice_get offers k ≡ Some o
    → leave_at turning o + move_on disk gap way ≤ gap.deadline → IsNoWorse disk gap wanted best (plan_by way (leave_at turning o))

module _ (disk : Disk) (gap : Gap) (way : Way) (wanted : List Block) (turning : Turning) (xs : List Offer) (i : ℕ) where
  -- one more offer
  pub offers-more : (old new : Plan) (x : Offer) → slice_get xs i ≡ Some x → IsNoWorse disk gap wanted new old
      → (leave_at turning x + move_on disk gap way ≤ gap.deadline → IsNoWorse disk gap wanted new (plan_by way (leave_at turning x)))
      → AreTried disk gap way wanted turning xs i old → AreTried disk gap way wanted turning xs (i + 1) new
  offers-more old new x at keeps this before k o less here fits = elim (cases_lt k i) [
    | inl l ↦ no_worse-trans disk gap wanted new old (plan_by way (leave_at turning o)) keeps (before k o l here fits)
    | inr m ↦
        let same : k ≡ i = omega arith in
        let one : x ≡ o = same_Some x o (sym at ∙ (ap (slice_get xs) (sym same) ∙ here)) in
        let leave = λ (y : Offer). leave_at turning y in
        subst (λ y. leave y + move_on disk gap way ≤ gap.deadline → IsNoWorse disk gap wanted new (plan_by way (leave y))) one this fits
  ]

  module _ (d : Offer) (less : i < length xs) (old : Plan) (before : AreTried disk gap way wanted turning xs i old) where
    -- whose leave was tried
    pub offers-tried : (new plan : Plan) (end : ℕ) → IsNoWorse disk gap wanted new old → end ≡ leave_at turning (get_or xs i d)
        → plan ≡ plan_by way end → IsNoWorse disk gap wanted new plan → AreTried disk gap way wanted turning xs (i + 1) new
    offers-tried new plan end keeps is by tried = offers-more old new (get_or xs i d) (slice_get-get_or xs i d less) keeps
        (λ fits. subst (IsNoWorse disk gap wanted new) (by ∙ ap (plan_by way) is) tried) before

    -- or is too late
    pub offers-late : (latest : ℕ) → latest < leave_at turning (get_or xs i d) → gap.deadline ≤ latest + move_on disk gap way
        → AreTried disk gap way wanted turning xs (i + 1) old
    offers-late latest late most = offers-more old old (get_or xs i d) (slice_get-get_or xs i d less) (no_worse-self disk gap wanted old)
        (λ fits. absurd (omega (arith, late, most, fits))) before

-- the loop over the offers of a way's track is through
module _ (disk : Disk) (gap : Gap) (way : Way) (es : List Entry) (turning : Turning) (offers : List Offer) (xs : List Entry)
    (turns : IsTurning disk turning) (when : turning.from ≡ arrival disk gap way) (its : xs ≡ on_track (early_track gap way) es)
    (on : AreOnDisk disk xs) (are : AreOffers offers xs) where
  -- the leave at a wanted block's end is that of its offer
  offered : (k : ℕ) (e : Entry) → slice_get (on_track (early_track gap way) es) k ≡ Some e → is_wanted e.state ≡ true
      → (i : ℕ) × (o : Offer) × (slice_get offers i ≡ Some o) × (leave_at turning o ≡ block_end disk.map e.block (arrival disk gap way))
  offered k e at w =
      let here : slice_get xs k ≡ Some e = ap (λ l. slice_get l k) its ∙ at in
      let i = wanted-at xs k e here w in
      let o = offer-of offers xs are i.0 e.block i.1 in
      let end = turning-end disk turning e.block turns (on k e here) ∙ ap (block_end disk.map e.block) when in
      (o.0, o.1, o.2, ap (λ s. end_of turning.rotation s turning.from) o.3 ∙ end)

  pub way_done : (best first earliest : Plan) (n u : ℕ) → earliest ≡ plan_by way turning.from → length offers ≤ n
      → IsNoWorse disk gap (wanted_of es) best first → IsNoWorse disk gap (wanted_of es) first earliest
      → AreTried disk gap way (wanted_of es) turning offers n best
      → IsPlan disk gap (plan_by way u) → IsNoWorse disk gap (wanted_of es) best (plan_by way u)
  way_done best first earliest n u from all b f each is =
      let arrived = no_worse-trans disk gap (wanted_of es) best first earliest b f in
      all_leaves disk gap way es best u
      (subst (λ p. IsNoWorse disk gap (wanted_of es) best p) (from ∙ ap (plan_by way) when) arrived)
      (λ k e at w fits.
      let o = offered k e at w in
      let within = slice_get_within offers o.0 o.1 o.2 in
      let in_time = subst (λ x. x + move_on disk gap way ≤ gap.deadline) (sym o.3) fits in
      subst (λ x. IsNoWorse disk gap (wanted_of es) best (plan_by way x)) o.3 (each o.0 o.1 (omega (arith, all, within)) o.2 in_time))
      is

-- one more track
pub tracks-more : (disk : Disk) (gap : Gap) (wanted : List Block) (new old : Plan) (at : ℕ → Track) (n : ℕ)
    → IsNoWorse disk gap wanted new old
    → ((leave : ℕ) → IsDetour disk gap (at n) leave → IsNoWorse disk gap wanted new (Detour (at n) leave))
    → ((h leave : ℕ) → h < n → IsDetour disk gap (at h) leave → IsNoWorse disk gap wanted old (Detour (at h) leave))
    → (h leave : ℕ) → h < n + 1 → IsDetour disk gap (at h) leave → IsNoWorse disk gap wanted new (Detour (at h) leave)
tracks-more disk gap wanted new old at n keeps this before h leave less is = elim (cases_lt h n) [
  | inl l ↦ no_worse-trans disk gap wanted new old (Detour (at h) leave) keeps (before h leave l is)
  | inr m ↦ let same : n ≡ h = omega arith in
      subst (λ x. IsDetour disk gap (at x) leave → IsNoWorse disk gap wanted new (Detour (at x) leave)) same (this leave) is
]

-- all plans of the gap
pub all_plans : (disk : Disk) (gap : Gap) (wanted : List Block) (best : Plan) (n : ℕ) → cylinders_of disk.map.zones ≤ n
    → ((leave : ℕ) → IsPlan disk gap (Direct leave) → IsNoWorse disk gap wanted best (Direct leave))
    → ((c h leave : ℕ) → c < n → IsDetour disk gap (record { cylinder = c; head = h }) leave
    → IsNoWorse disk gap wanted best (Detour (record { cylinder = c; head = h }) leave))
    → (q : Plan) → IsPlan disk gap q → IsNoWorse disk gap wanted best q
all_plans disk gap wanted best n all direct detour (Direct leave) is = direct leave is
all_plans disk gap wanted best n all direct detour (Detour track leave) is =
    detour track.cylinder track.head leave (omega (arith, is.on_disk.cylinder)) is

-- the sides of equal dwells are the same
pub sides-at : {disk : Disk} {target : Track} {es : List Entry} {dwell other : Dwell} {sides : Sides} → dwell ≡ other
    → AreSides disk target es dwell sides → AreSides disk target es other sides
sides-at {disk} {target} {es} {dwell} {other} {sides} same h = subst (λ d. AreSides disk target es d sides) same h

-- the sides of a way are those of each of its plans
sides-way : (disk : Disk) (gap : Gap) (way : Way) (leave : ℕ) (es : List Entry) (sides : Sides)
    → AreSides disk gap.target es (longest_stay disk gap way) sides
    → AreSides disk gap.target es (early_dwell disk gap (plan_by way leave)) sides
sides-way disk gap Source leave es sides h = record { early = h.early; late = h.late; turning = h.turning; from = h.from }
sides-way disk gap (Over track) leave es sides h = record { early = h.early; late = h.late; turning = h.turning; from = h.from }

pub sides-by : (disk : Disk) (gap : Gap) (way : Way) (leave : ℕ) (plan : Plan) (es : List Entry) (sides : Sides) → plan ≡ plan_by way leave
    → AreSides disk gap.target es (longest_stay disk gap way) sides
    → AreSides disk gap.target es (early_dwell disk gap plan) sides
sides-by disk gap way leave plan es sides same h =
    subst (λ p. AreSides disk gap.target es (early_dwell disk gap p) sides) (sym same) (sides-way disk gap way leave es sides h)
