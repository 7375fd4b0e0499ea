-- A block that is caught has no more sectors than all that are caught; so where each is longer than that, nothing is.
use Rattle.fb_bgwrite.proofs.Words.{all_get, all_push, all_weaker, ◌≡◌, ℕ, zero, suc, ◌+◌, ◌-◌, ◌*◌, ◌<◌, ◌≤◌, ◌⊎◌, List, [], ◌∷◌}
use Rattle.fb_bgwrite.proofs.Words.{◌++◌, true, ◌==◌, Option, Some, Result, Ok, Err, OnOk, OnErr, slice_get, get_or, take, length}
use Rattle.fb_bgwrite.proofs.Words.{min, inl, inr, refl, sym, ap, ◌∙◌, subst, arith, AllByRecursion, sum_by, cases_Bool, true≢false}
use Rattle.fb_bgwrite.proofs.Words.{nat_tests, get_or-le-sum_by, sum_by-cons, sum_by-le-sum_by, sum_by_more, get_or_from_slice_get}
use Rattle.fb_bgwrite.proofs.Words.{slice_get_within, some_one, all_of, Track, same_track, IsTrackOf, IsSound, Disk, Block, Deliver}
use Rattle.fb_bgwrite.proofs.Words.{Entry, after, entry_after, is_wanted, on_track, wanted_of, AreOffers, Offer, Dwell, Gap}
use Rattle.fb_bgwrite.proofs.Words.{AreOnDisk, stay_gain, stay-of, ArePending, AreTried, IsFound, IsPart, IsSearch, AreAtLeast}
use Rattle.fb_bgwrite.proofs.Words.{AreLight, IsAtLeast, IsNoShorter, dwell_of, value, Spill, Valued, Part, Search}
use Rattle.fb_bgwrite.proofs.Bounds.{no_greater_than, IsLowered}
use Rattle.fb_bgwrite.proofs.{Values.its_sectors, Values.passes, Values.value_caught, Values.value_stay, Amended.track_on_disk}
use Rattle.fb_bgwrite.proofs.{Choices.light_on, Choices.nothing_beaten}
use Rattle.fb_plan.proofs.Offered.{wanted-at}

-- one of the blocks is caught
pub record HasCaught (disk : Disk) (dwell : Dwell) (entries : List Entry) : Type 0 where
  pub index : ℕ
  pub entry : Entry
  pub stands : slice_get entries index ≡ Some entry
  pub passing : passes disk dwell entry ≡ true
  pub few : entry.block.count ≤ sum_by (stay_gain disk dwell) entries
  pub worth : entry.block.weight * entry.block.count ≡ entry.block.count

pub some_caught : (disk : Disk) (dwell : Dwell) (es : List Entry) → AreLight es
    → (sum_by (stay_gain disk dwell) es ≡ 0) ⊎ HasCaught disk dwell es
some_caught disk dwell [] light = inl refl
some_caught disk dwell (e ∷ es) light = elim (cases_Bool (passes disk dwell e)) [
  | inl caught ↦
      let one : stay_gain disk dwell e ≡ e.block.weight * e.block.count = rw caught refl in
      let worth = its_sectors e light.0 in
      inr (record {
        index = 0;
        entry = e;
        stands = refl;
        passing = caught;
        few = omega (arith, sum_by-cons (stay_gain disk dwell) e es, one, worth);
        worth = worth;
      })
  | inr missed ↦
      let one : stay_gain disk dwell e ≡ 0 = rw missed refl in
      let sum = sum_by-cons (stay_gain disk dwell) e es in
      elim (some_caught disk dwell es light.1) [
        | inl none ↦ inl (omega (arith, sum, one, none))
        | inr is ↦ inr (record {
          index = suc is.index;
          entry = is.entry;
          stands = is.stands;
          passing = is.passing;
          few = omega (arith, is.few, sum);
          worth = is.worth;
        })
      ]
]

pub passing_wanted : (disk : Disk) (dwell : Dwell) (e : Entry) → passes disk dwell e ≡ true → is_wanted e.state ≡ true
passing_wanted disk dwell e passing = grind (arith, nat_tests)

still_wanted : (put number : ℕ) (e : Entry) → is_wanted (entry_after put (Deliver number) e).state ≡ true → is_wanted e.state ≡ true
still_wanted put number e wanted = elim (cases_Bool (e.block.task == put)) [
  | inl own ↦ elim (cases_Bool (e.block.index == number)) [
    | inl this ↦ absurd (true≢false (sym wanted ∙ rw (own, this) refl))
    | inr other ↦ rw (own, other) at wanted
  ]
  | inr other ↦ rw other at wanted
]

passing_here : (disk : Disk) (dwell : Dwell) (e : Entry) → passes disk dwell e ≡ true → e.block.track.cylinder ≡ dwell.track.cylinder
passing_here disk dwell e passing = grind (arith, nat_tests)

module _ (disk : Disk) (gap : Gap) (entries : List Entry) (spill : Spill) (light : AreLight entries) (least : ℕ) where
  -- no pending block of the track is short enough
  pub too_long_on : (blocks : List Entry) (most : ℕ) → blocks ≡ on_track spill.track entries
      → ((i : ℕ) (e : Entry) → slice_get blocks i ≡ Some e → is_wanted e.state ≡ true → least ≤ e.block.weight * e.block.count)
      → value disk gap (wanted_of entries) spill ≤ most → most < least → value disk gap (wanted_of entries) spill ≡ 0
  too_long_on blocks most its each few less =
      let dwell = dwell_of disk gap spill in
      let sum = stay-of disk dwell entries blocks (sum_by (stay_gain disk dwell) blocks) its refl in
      let is_value = value_stay disk gap entries spill light in
      elim (some_caught disk dwell blocks (subst AreLight (sym its) (light_on spill.track entries light))) [
        | inl none ↦ omega (arith, sum, none, is_value)
        | inr is ↦
            let long = each is.index is.entry is.stands (passing_wanted disk dwell is.entry is.passing) in
            absurd (omega (arith, long, is.worth, is.few, sum, is_value, few, less))
      ]

  -- nor one of these cylinders; no block has more than 2,048 sectors
  none_short : (from end : ℕ) → AreAtLeast from end least entries → from ≤ spill.track.cylinder → spill.track.cylinder < end → (most : ℕ)
      → AreOnDisk disk entries → value disk gap (wanted_of entries) spill ≤ most → min most 2048 < least
      → value disk gap (wanted_of entries) spill ≡ 0
  none_short from end long low high most on_disk few less =
      let dwell = dwell_of disk gap spill in
      let is_value = value_caught disk gap entries spill light in
      elim (some_caught disk dwell entries light) [
        | inl none ↦ omega (arith, is_value, none)
        | inr is ↦
            let here = passing_here disk dwell is.entry is.passing in
            let longer = all_get (IsAtLeast from end least) entries is.index is.entry long is.stands
            (passing_wanted disk dwell is.entry is.passing) (omega (arith, low, here)) (omega (arith, high, here)) in
            absurd (omega (arith, longer, is.few, is_value, few, less, (on_disk is.index is.entry is.stands).few))
      ]

-- before and behind some cylinders each pending block is longer than what a spill may write
pub none_outside : (disk : Disk) (gap : Gap) (entries : List Entry) → ArePending disk entries
    → (spill : Spill) (least most from low high end : ℕ) → AreAtLeast from low least entries → AreAtLeast high end least entries
    → from ≤ spill.track.cylinder → spill.track.cylinder < end → (spill.track.cylinder < low) ⊎ (high ≤ spill.track.cylinder)
    → value disk gap (wanted_of entries) spill ≤ most → min most 2048 < least → value disk gap (wanted_of entries) spill ≡ 0
none_outside disk gap entries blocks spill least most from low high end before behind above below outside few less =
    let none = none_short disk gap entries spill blocks.light least in
    elim outside [
      | inl under ↦ none from low before above under most blocks.on_disk few less
      | inr over ↦ none high end behind over below most blocks.on_disk few less
    ]

-- the spills on some cylinders of a part are beaten where each pending block there is longer than what they may write
pub range_beaten : (search : Search) → IsSearch search → (best : Option Valued) → IsFound search best → (part : Part) → IsPart search part
    → (least from end : ℕ) → part.from ≤ from → end ≤ part.end → min part.most 2048 < least
    → AreAtLeast from end least search.pending.now → AreTried search best from end
range_beaten search is_search best found part is_part least from end after inside less long track low high leave is =
    let disk = search.disk.now in
    let gap = search.gap.now in
    let blocks = is_search.blocks in
    let spill : Spill = record { track = track; leave = leave } in
    let few = is_part.most track (omega (arith, low, after)) (omega (arith, high, inside)) leave is in
    nothing_beaten disk gap (wanted_of search.pending.now) best spill found
    (none_short disk gap search.pending.now spill blocks.light least from end long low high part.most blocks.on_disk few less)

-- ---- the bounds of cylinders

-- none of the first offers is worth less than a number, nor is one more than the lesser of that and its own worth
pub one_more_offer : (offers : List Offer) (i : ℕ) (d : Offer) (old new : ℕ) → i < length offers
    → sum_by (λ (o : Offer). old - o.worth) (take i offers) ≡ 0 → new ≡ min old (get_or offers i d).worth
    → sum_by (λ (o : Offer). new - o.worth) (take (i + 1) offers) ≡ 0
one_more_offer offers i d old new within none least =
    let lack = λ (o : Offer). new - o.worth in
    let before = sum_by-le-sum_by lack (λ (o : Offer). old - o.worth) (take i offers) (λ o. omega (arith, least)) in
    omega (arith, sum_by_more lack offers i d within, before, none, least)

-- nor one more that is worth more than a number
pub one_longer : (offers : List Offer) (i : ℕ) (d : Offer) (most : ℕ) → i < length offers
    → sum_by (λ (o : Offer). most + 1 - o.worth) (take i offers) ≡ 0 → most < (get_or offers i d).worth
    → sum_by (λ (o : Offer). most + 1 - o.worth) (take (i + 1) offers) ≡ 0
one_longer offers i d most within none long = one_more_offer offers i d (most + 1) (most + 1) within none (omega (arith, long))

-- where no offer is worth less than that, no pending block is
pub none_less : (least : ℕ) (offers : List Offer) (blocks : List Entry) → AreOffers offers blocks
    → sum_by (λ (o : Offer). least - o.worth) offers ≡ 0
    → (i : ℕ) (e : Entry) → slice_get blocks i ≡ Some e → is_wanted e.state ≡ true → least ≤ e.block.weight * e.block.count
none_less least offers blocks are none i e at wanted =
    let its = wanted-at blocks i e at wanted in
    let lack = λ (b : Block). least - b.weight * b.count in
    let within = slice_get_within (wanted_of blocks) its.0 e.block its.1 in
    let one = get_or-le-sum_by lack (wanted_of blocks) its.0 e.block within in
    let own = ap lack (get_or_from_slice_get (wanted_of blocks) its.0 e.block e.block its.1) in
    omega (arith, one, own, are (λ sweep worth. least - worth), none)

-- what was delivered needs no bound
pub delivered_too : (bounds : List ℕ) (put number : ℕ) (es : List Entry) → AllByRecursion (IsNoShorter bounds) es
    → AllByRecursion (IsNoShorter bounds) (after put (Deliver number) es)
delivered_too bounds put number [] all = tt
delivered_too bounds put number (e ∷ es) all =
    (λ wanted. all.0 (still_wanted put number e wanted), delivered_too bounds put number es all.1)

-- and weighs what it did
pub still_light : (put number : ℕ) (es : List Entry) → AreLight es → AreLight (after put (Deliver number) es)
still_light put number [] light = tt
still_light put number (e ∷ es) light = (light.0, still_light put number es light.1)

-- no block is shorter than its cylinder's bound after the bound is lowered, whether or not the new block was registered
pub registered_too : {A E : Type 0} (r : Result A E) (old new : List ℕ) (es later : List Entry) (e : Entry)
    → AllByRecursion (IsNoShorter old) es → AreLight es → e.block.weight ≡ 1
    → IsLowered old new e.block.track.cylinder e.block.count → OnOk r (later ≡ es ++ e ∷ []) → OnErr r (later ≡ es)
    → AllByRecursion (IsNoShorter new) later × AreLight later
registered_too r old new es later e all light weight is = registered r where
  cylinder : ℕ
  cylinder = e.block.track.cylinder

  own : get_or new cylinder 2049 ≤ e.block.count
  own =
      let here : (cylinder == cylinder) ≡ true = grind (arith, nat_tests) in
      let bound : get_or new cylinder 2049 ≡ min (get_or old cylinder 2049) e.block.count = rw here at (is cylinder) in omega (arith, bound)

  others : AllByRecursion (IsNoShorter new) es
  others = all_weaker (IsNoShorter old) (IsNoShorter new) (λ o long wanted. omega (
    arith,
    long wanted,
    no_greater_than old new cylinder e.block.count o.block.track.cylinder is,
  )) es all

  registered : {A E : Type 0} (r : Result A E) → OnOk r (later ≡ es ++ e ∷ []) → OnErr r (later ≡ es)
      → AllByRecursion (IsNoShorter new) later × AreLight later
  registered (Ok x) more same = subst (λ xs. AllByRecursion (IsNoShorter new) xs × AreLight xs) (sym more)
      (all_push (IsNoShorter new) es e others (λ wanted. own), all_push (λ o. o.block.weight ≡ 1) es e light weight)
  registered (Err x) more same = subst (λ xs. AllByRecursion (IsNoShorter new) xs × AreLight xs) (sym same) (others, light)

-- the bound of a cylinder is replaced by another that holds
pub renewed : (old new : List ℕ) (cylinder least : ℕ)
    → ((c : ℕ) → ((c ≡ cylinder) × (get_or new c 2049 ≡ least)) ⊎ (get_or new c 2049 ≡ get_or old c 2049)) → (es : List Entry)
    → AllByRecursion (IsNoShorter old) es
    → AllByRecursion (λ (e : Entry). is_wanted e.state ≡ true → e.block.track.cylinder ≡ cylinder → least ≤ e.block.count) es
    → AllByRecursion (IsNoShorter new) es
renewed old new cylinder least is [] all own = tt
renewed old new cylinder least is (e ∷ es) all own = (
  λ wanted. elim (is e.block.track.cylinder) [
    | inl here ↦ omega (arith, here.1, own.0 wanted here.0)
    | inr other ↦ omega (arith, other, all.0 wanted)
  ],
  renewed old new cylinder least is es all.1 own.1,
)

-- a block is one of its track
stands_on : (es : List Entry) (k : ℕ) (e : Entry) → slice_get es k ≡ Some e → (i : ℕ) × (slice_get (on_track e.block.track es) i ≡ Some e)
stands_on [] k e at = absurd (grind arith)
stands_on (x ∷ xs) zero e at = subst (λ y. (i : ℕ) × (slice_get (on_track y.block.track (x ∷ xs)) i ≡ Some y)) (some_one x e at)
    (let own : same_track x.block.track x.block.track ≡ true = grind (arith, nat_tests) in (0, rw own refl))
stands_on (x ∷ xs) (suc k) e at =
    let rest = stands_on xs k e at in
    elim (cases_Bool (same_track e.block.track x.block.track)) [
      | inl here ↦ (suc rest.0, rw here rest.1)
      | inr other ↦ (rest.0, rw other rest.1)
    ]

-- what holds of the blocks on each track of a cylinder holds of all its blocks
pub all_of_cylinder : (disk : Disk) → IsSound disk.map → (cylinder heads least : ℕ) (es : List Entry) → AreOnDisk disk es → AreLight es
    → disk.map.heads ≤ heads
    → ((head i : ℕ) (e : Entry) → head < heads → slice_get (on_track (record { cylinder = cylinder; head = head }) es) i ≡ Some e
    → is_wanted e.state ≡ true → least ≤ e.block.weight * e.block.count)
    → AllByRecursion (λ (e : Entry). is_wanted e.state ≡ true → e.block.track.cylinder ≡ cylinder → least ≤ e.block.count) es
all_of_cylinder disk sound cylinder heads least es on_disk light all each = all_of _ es (λ k e at wanted here.
    let on = stands_on es k e at in
    let head = (subst (IsTrackOf disk.map) (sym (on_disk k e at).track) (track_on_disk disk sound e.block.lbn)).head in
    let there =
    subst (λ c. slice_get (on_track (let t : Track = record { cylinder = c; head = e.block.track.head } in t) es) on.0 ≡ Some e)
    here on.1 in
    let worth = its_sectors e (all_get (λ (x : Entry). x.block.weight ≡ 1) es k e light at) in
    omega (arith, each e.block.track.head on.0 e (omega (arith, head, all)) there wanted, worth))
