-- What a stay writes is what its track offers to it.
use Rattle.fb_units.proofs.Filtered.{filter_from}
use Rattle.fb_plan.proofs.Both.{sum-agree}
use Rattle.fb_bgwrite.proofs.Words.{◌≡◌, ℕ, ◌+◌, ◌<◌, ◌≤◌, List, true, false, Some, slice_get, length, max, inl, inr, refl}
use Rattle.fb_bgwrite.proofs.Words.{sym, ap, ◌∙◌, subst, arith, if◌then◌else◌, ◌⊎◌, sum_by, nat_le, cases_lt, nat_tests}
use Rattle.fb_bgwrite.proofs.Words.{slice_get_within, same_track, Sweep, Track, Disk, Block, Entry, is_wanted, on_track, Offer, AreOffers}
use Rattle.fb_bgwrite.proofs.Words.{Dwell, block_end, AreOnDisk, IsBlockOn, Turning, IsTurning, added, end_of, passes_by}
use Rattle.fb_bgwrite.proofs.Words.{stay_gain, some_one, OneEndsAt, IsLastEnd}
use Rattle.fb_bgwrite.specs.ByAngle.{IsLastOf}
use Rattle.fb_plan.proofs.{Gains.adds}
use Rattle.fb_plan.proofs.{Offered.block-of, Offered.entry-of, Offered.offer-of, Offered.sum-offered, Offered.wanted-at}
use Rattle.fb_plan.proofs.Swept.{turning-end}
use Rattle.fb_bgwrite.proofs.Values.{passes, EndsAt, IsLast}

-- ---- the loop over the offers

module _ (turning : Turning) (latest : ℕ) (offers : List Offer) where
  abbrev ends : Offer → ℕ
  ends offer = end_of turning.rotation offer.sweep turning.from

  pub none_last : (seen : ℕ → Type 0) → ((i : ℕ) → seen i → length offers ≤ i) → turning.from ≤ latest
      → IsLastOf turning latest offers seen 0 turning.from
  none_last seen none order = record {
    from = omega arith;
    upto = order;
    each = λ i offer was at. absurd (omega (arith, none i was, slice_get_within offers i offer at));
    reached = inl (refl, refl);
  }

  pub all_last : (seen : ℕ → Type 0) (worth last : ℕ) → ((i : ℕ) → i < length offers → seen i)
      → IsLastOf turning latest offers seen worth last → IsLastEnd turning latest offers worth last
  all_last seen worth last all is = record {
    from = is.from;
    upto = is.upto;
    each = λ i offer at. is.each i offer (all i (slice_get_within offers i offer at)) at;
    reached = is.reached;
  }

  -- what ends too late needn't be looked at
  pub others_late : (seen more : ℕ → Type 0) (worth last : ℕ)
      → ((i : ℕ) (offer : Offer) → more i → slice_get offers i ≡ Some offer → seen i ⊎ (latest < ends offer))
      → IsLastOf turning latest offers seen worth last → IsLastOf turning latest offers more worth last
  others_late seen more worth last late is = record {
    from = is.from;
    upto = is.upto;
    each = λ i offer was at ended. elim (late i offer was at) [
      | inl before ↦ is.each i offer before at ended
      | inr later ↦ absurd (omega (arith, later, ended))
    ];
    reached = is.reached;
  }

  one_offer : (n : ℕ) (a b : Offer) → slice_get offers n ≡ Some a → slice_get offers n ≡ Some b → a ≡ b
  one_offer n a b at_a at_b = some_one a b (sym at_a ∙ at_b)

  -- one more is looked at
  module _ (seen more : ℕ → Type 0) (n worth last new_worth new_last : ℕ) (o : Offer) (at : slice_get offers n ≡ Some o)
      (sum : new_worth ≡ worth + added (passes_by turning latest) o)
      (is_new : new_last ≡ (if passes_by turning latest o.sweep then max last (ends o) else last))
      (grows : (i : ℕ) → more i → seen i ⊎ (i ≡ n))
      (is : IsLastOf turning latest offers seen worth last) where
    -- the n-th is the new one
    own_end : (i : ℕ) (offer : Offer) → i ≡ n → slice_get offers i ≡ Some offer → ends o ≡ ends offer
    own_end i offer same there = ap ends (one_offer n o offer at (subst (λ k. slice_get offers k ≡ Some offer) same there))

    in_time : passes_by turning latest o.sweep ≡ true → IsLastOf turning latest offers more new_worth new_last
    in_time yes' =
        let new : new_last ≡ max last (ends o) = rw yes' at is_new in
        let by : ends o ≤ latest = grind (arith, nat_tests) in
        record {
          from = omega (arith, new, is.from);
          upto = omega (arith, new, is.upto, by);
          each = λ i offer was there ended. elim (grows i was) [
            | inl before ↦ omega (arith, is.each i offer before there ended, new)
            | inr here ↦ omega (arith, own_end i offer here there, new)
          ];
          reached = elim (cases_lt last (ends o)) [
            | inl later ↦ inr (record { index = n; offer = o; stands = at; ends = omega (arith, new, later) })
            | inr earlier ↦ elim is.reached [
              | inl none ↦ inr (record { index = n; offer = o; stands = at; ends = omega (arith, new, earlier, none.1) })
              | inr some ↦
                  let end : ends some.offer ≡ new_last = omega (arith, some.ends, new, earlier) in
                  inr (record { index = some.index; offer = some.offer; stands = some.stands; ends = end })
            ]
          ];
        }

    too_late : latest < ends o → IsLastOf turning latest offers more new_worth new_last
    too_late late =
        let no' : passes_by turning latest o.sweep ≡ false = grind (arith, nat_tests) in
        let new : new_last ≡ last = rw no' at is_new in
        let none : added (passes_by turning latest) o ≡ 0 = rw no' refl in
        record {
          from = omega (arith, new, is.from);
          upto = omega (arith, new, is.upto);
          each = λ i offer was there ended. elim (grows i was) [
            | inl before ↦ omega (arith, is.each i offer before there ended, new)
            | inr here ↦ absurd (omega (arith, own_end i offer here there, late, ended))
          ];
          reached = elim is.reached [
            | inl nothing ↦ inl (omega (arith, sum, none, nothing.0), omega (arith, new, nothing.1))
            | inr some ↦ inr (record { index = some.index; offer = some.offer; stands = some.stands; ends = omega (arith, some.ends, new) })
          ];
        }

    pub more_last : IsLastOf turning latest offers more new_worth new_last
    more_last = elim (cases_lt latest (ends o)) [
      | inl late ↦ too_late late
      | inr by ↦ in_time (grind (arith, nat_tests))
    ]

-- ---- offers and blocks

-- a stay on a track from the turning's instant to the latest one, and what the blocks of this track offer
module _ (disk : Disk) (track : Track) (latest : ℕ) (entries blocks : List Entry) (its : blocks ≡ on_track track entries)
    (on : AreOnDisk disk blocks) (turning : Turning) (turns : IsTurning disk turning) (offers : List Offer)
    (are : AreOffers offers blocks) where
  abbrev stay : Dwell
  stay = record { track = track; begin = turning.from; end = latest }

  abbrev sweep_end : Sweep → ℕ
  sweep_end sweep = end_of turning.rotation sweep turning.from

  ends_as : (b : Block) → IsBlockOn disk.map b → sweep_end b.sweep ≡ block_end disk.map b turning.from
  ends_as b fits = turning-end disk turning b turns fits

  over : (b : Block) (o : Offer) → IsBlockOn disk.map b → o.sweep ≡ b.sweep → sweep_end o.sweep ≡ block_end disk.map b turning.from
  over b o fits same = ap sweep_end same ∙ ends_as b fits

  here : (i : ℕ) (e : Entry) → slice_get blocks i ≡ Some e → same_track track e.block.track ≡ true
  here i e at = (filter_from (λ (x : Entry). same_track track x.block.track) entries i e (ap (λ l. slice_get l i) (sym its) ∙ at)).2

  adds_as : (e : Entry) → IsBlockOn disk.map e.block → same_track track e.block.track ≡ true
      → adds (λ b. passes_by turning latest b.sweep) e ≡ stay_gain disk stay e
  adds_as e fits y = ap (λ x. adds (λ b. nat_le x latest) e) (ends_as e.block fits) ∙ rw y refl

  pub sum_of_stay : sum_by (added (passes_by turning latest)) offers ≡ sum_by (stay_gain disk stay) blocks
  sum_of_stay =
      sum-offered offers blocks are (passes_by turning latest)
      ∙ sum-agree (adds (λ b. passes_by turning latest b.sweep)) (stay_gain disk stay) blocks
      (λ i e at. adds_as e (on i e at) (here i e at))

  module _ (worth last : ℕ) (is : IsLastEnd turning latest offers worth last) where
    by_last : (i : ℕ) (e : Entry) → slice_get blocks i ≡ Some e → passes disk stay e ≡ true → block_end disk.map e.block turning.from ≤ last
    by_last i e at passed =
        let wanted : is_wanted e.state ≡ true = grind arith in
        let by : block_end disk.map e.block turning.from ≤ latest = grind (arith, nat_tests) in
        let block = wanted-at blocks i e at wanted in
        let offer = offer-of offers blocks are block.0 e.block block.1 in
        let end = over e.block offer.1 (on i e at) offer.3 in
        omega (arith, is.each offer.0 offer.1 offer.2 (omega (arith, end, by)), end)

    one_ends : OneEndsAt turning offers last → EndsAt disk stay blocks last
    one_ends one =
        let block = block-of offers blocks are one.index one.offer one.stands in
        let entry = entry-of blocks block.0 block.1 block.2 in
        let e = entry.1 in
        let same = sym (ap (λ (b : Block). b.sweep) entry.3 ∙ block.3) in
        let end : block_end disk.map e.block turning.from ≡ last = sym (over e.block one.offer (on entry.0 e entry.2) same) ∙ one.ends in
        let by : block_end disk.map e.block turning.from ≤ latest = omega (arith, end, is.upto) in
        let on_it = here entry.0 e entry.2 in
        let wanted = entry.4 in
        record {
          index = entry.0;
          entry = e;
          stands = entry.2;
          passing = grind (arith, nat_tests, wanted, on_it, by);
          ends = end;
        }

    pub last_of_stay : IsLast disk stay blocks worth last
    last_of_stay = record {
      from = is.from;
      upto = is.upto;
      each = by_last;
      reached = elim is.reached [
        | inl none ↦ inl none
        | inr one ↦ inr (one_ends one)
      ];
    }
