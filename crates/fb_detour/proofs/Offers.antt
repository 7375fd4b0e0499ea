-- What a track offers is what its wanted blocks can give.
use Rattle.fb_units.proofs.Filtered.{filter_from}
use Rattle.fb_units.proofs.Lists.{all_from_index}
use Rattle.fb_detour.proofs.Words.{Bool, List, [], ap, arith, false, get_or, if◌then◌else◌, inl, inr, length, nat_le, refl}
use Rattle.fb_detour.proofs.Words.{take, true, ℕ, ◌*◌, ◌+◌, ◌<◌, ◌∙◌, ◌∷◌, ◌≡◌, ◌≤◌, cases_Bool, cases_lt, nat_tests, take_all}
use Rattle.fb_detour.proofs.Words.{sum_by-cons, sum_by-le-sum_by, sum_by-take-le, sum_by_more, AllByRecursion, sum_by, same_track, Sweep}
use Rattle.fb_detour.proofs.Words.{Disk, is_wanted, on_track, wanted_of, Block, Entry, Offer, Dwell, Gap, next-le, added, end_of, passes_by}
use Rattle.fb_detour.proofs.Words.{IsBlockOn, Turning, IsReady, IsStop, late_gain, stay_gain, turned_to, stay, Stop}
use Rattle.fb_plan.proofs.Swept.{end-by-sweep}
use Rattle.fb_detour.proofs.Ceilings.{if-le-n, worth}

-- a sum over the wanted blocks, block by block
over_entries : (f : Block → ℕ) (g : Entry → ℕ) (es : List Entry)
    → AllByRecursion (λ e. g e ≡ (if is_wanted e.state then f e.block else 0)) es → sum_by f (wanted_of es) ≡ sum_by g es
over_entries f g [] all = refl
over_entries f g (e ∷ es) all = elim (cases_Bool (is_wanted e.state)) [
  | inl y ↦
      let left : sum_by f (wanted_of (e ∷ es)) ≡ f e.block + sum_by f (wanted_of es) = rw y (sum_by-cons f e.block (wanted_of es)) in
      let one : g e ≡ f e.block = all.0 ∙ ap (λ b. if b then f e.block else 0) y in
      omega (arith, left, sum_by-cons g e es, one, over_entries f g es all.1)
  | inr n ↦
      let left : sum_by f (wanted_of (e ∷ es)) ≡ sum_by f (wanted_of es) = rw n refl in
      let one : g e ≡ 0 = all.0 ∙ ap (λ b. if b then f e.block else 0) n in
      omega (arith, left, sum_by-cons g e es, one, over_entries f g es all.1)
]

module _ (disk : Disk) (dwell : Dwell) where
  -- what a stay catches of a wanted block of its track, by how that passes
  abbrev by_sweep : Block → ℕ
  by_sweep b = if nat_le (end_of disk.map.rotation b.sweep dwell.begin) dwell.end then worth b else 0

  on_its_track : (e : Entry) → IsBlockOn disk.map e.block → same_track dwell.track e.block.track ≡ true
      → stay_gain disk dwell e ≡ (if is_wanted e.state then by_sweep e.block else 0)
  on_its_track e fits same = elim (cases_Bool (is_wanted e.state)) [
    | inl y ↦ rw (y, same, end-by-sweep disk e.block dwell.begin fits) refl
    | inr n ↦ rw n refl
  ]

  -- a stop's offers give to a stay what it catches of the track's blocks
  pub gives : (es : List Entry) (stop : Stop) → IsStop disk (on_track dwell.track es) stop
      → sum_by (added (passes_by (turned_to stop.turning dwell.begin) dwell.end)) stop.offers.now ≡ stay disk dwell es
  unfolding stay
  gives es stop is =
      let its = on_track dwell.track es in
      let all = all_from_index (λ e. stay_gain disk dwell e ≡ (if is_wanted e.state then by_sweep e.block else 0)) its
      (λ k e at. on_its_track e (is.on_disk k e at) (filter_from (λ x. same_track dwell.track x.block.track) es k e at).2) in
      ap (λ r. sum_by (added (λ sweep. nat_le (end_of r sweep dwell.begin) dwell.end)) stop.offers.now) is.turning.rotation
      ∙ (is.its (λ sweep n. if nat_le (end_of disk.map.rotation sweep dwell.begin) dwell.end then n else 0)
      ∙ over_entries by_sweep (stay_gain disk dwell) its all)

-- one offer more
module _ (f : Offer → ℕ) (offers : List Offer) (i : ℕ) (d : Offer) (within : i < length offers) where
  next : sum_by f (take (i + 1) offers) ≡ sum_by f (take i offers) + f (get_or offers i d)
  next = sum_by_more f offers i d within

  pub sum-more : (old new : ℕ) → old ≡ sum_by f (take i offers) → new ≡ old + f (get_or offers i d) → new ≡ sum_by f (take (i + 1) offers)
  sum-more old new is more = omega (arith, next)

  pub bound-more : (old new : ℕ) → sum_by f (take i offers) ≤ old → old + f (get_or offers i d) ≤ new → sum_by f (take (i + 1) offers) ≤ new
  bound-more old new is more = omega (arith, next)

  pub within-more : (old new : ℕ) → old ≤ sum_by f (take i offers) → new ≤ old + f (get_or offers i d)
      → new ≤ sum_by f (take (i + 1) offers)
  within-more old new is more = omega (arith, next)

  pub none-more : sum_by f (take i offers) ≤ 0 → f (get_or offers i d) ≡ 0 → sum_by f (take (i + 1) offers) ≤ 0
  none-more is more = omega (arith, next)

-- the sum over all offers
pub all-of : (f : Offer → ℕ) (offers : List Offer) (i : ℕ) → length offers ≤ i → sum_by f (take i offers) ≡ sum_by f offers
all-of f offers i over = ap (sum_by f) (take_all i offers over)

-- an offer adds no more than it is worth
pub added-worth : (passes : Sweep → Bool) (o : Offer) → added passes o ≤ o.worth
added-worth passes o = if-le-n (passes o.sweep) o.worth

-- so what some of a stop's offers add is small
pub small-sum : (stop : Stop) (f : Offer → ℕ) (n : ℕ) → ((o : Offer) → f o ≤ o.worth) → IsReady stop
    → sum_by f (take n stop.offers.now) ≤ 16000000 * 2048000
small-sum stop f n less ready =
    let all = sum_by-le-sum_by f (λ (o : Offer). o.worth) stop.offers.now less in
    omega (arith, sum_by-take-le f stop.offers.now n, all, ready.weight, ready.small)

-- to a later stay each adds no more
falls : (turning : Turning) (gap : Gap) (soon late : ℕ) (o : Offer) → 0 < turning.rotation → soon ≤ late
    → late_gain turning gap late o ≤ late_gain turning gap soon o
falls turning gap soon late o some le =
    let ends = next-le turning.rotation o.sweep.begin soon late some le in
    elim (cases_lt gap.deadline (end_of turning.rotation o.sweep late)) [
      | inl behind ↦
          let none : nat_le (end_of turning.rotation o.sweep late) gap.deadline ≡ false = grind (arith, nat_tests) in rw none (omega arith)
      | inr by ↦
          let early : nat_le (end_of turning.rotation o.sweep soon) gap.deadline ≡ true = grind (arith, nat_tests) in
          rw early (added-worth (passes_by (turned_to turning late) gap.deadline) o)
    ]

pub sums-fall : (turning : Turning) (gap : Gap) (soon late : ℕ) (offers : List Offer) → 0 < turning.rotation → soon ≤ late
    → sum_by (late_gain turning gap late) offers ≤ sum_by (late_gain turning gap soon) offers
sums-fall turning gap soon late offers some le =
    sum_by-le-sum_by (late_gain turning gap late) (late_gain turning gap soon) offers (λ o. falls turning gap soon late o some le)
