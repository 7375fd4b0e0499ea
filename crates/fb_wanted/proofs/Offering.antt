-- What the wanted blocks of each track offer, after a block is registered or changes its state.
use Rattle.fb_wanted.proofs.Words.{◌≡◌, ℕ, ◌+◌, ◌-◌, ◌<◌, ◌≤◌, ◌⊎◌, inl, inr, List, [], ◌∷◌, ◌++◌, Some, true, false, length}
use Rattle.fb_wanted.proofs.Words.{length-append, filter, map, set, slice_get, get_or, refl, ap, sym, ◌∙◌, arith, subst, sum_by}
use Rattle.fb_wanted.proofs.Words.{cases_Bool, cases_eq, cases_lt, true≢false, length-map, length-set, map-append, same_Some}
use Rattle.fb_wanted.proofs.Words.{slice_get_within, get_or_from_slice_get, filter-le, same_tracks, track_itself, Track, same_track}
use Rattle.fb_wanted.proofs.Words.{old_or_last, Block, Entry, State, Wanted, Offer, AreSameBlocks, offer_of, offered_blocks, no_block}
use Rattle.fb_wanted.proofs.Words.{is_wanted, on_track, wanted_of, OnTrack, indexes_of, is_of_track, no_offer, offers_at, with_state}
use Rattle.fb_wanted.proofs.Words.{AreOffered, IsChanged}
use Rattle.std.proofs.lemmas.List.Sums.{sum_by_push, sum_by-swap_remove}
use Rattle.fb_units.proofs.Counts.{each_one}
use Rattle.fb_wanted.specs.LookUp.{last_of, taken_out, with_offer, without_offer}
use Rattle.fb_wanted.specs.LookUp.{IsItsOffer}
use Rattle.fb_wanted.proofs.Found.{block_at, block_is, blocks_still, found_each}
use Rattle.fb_wanted.proofs.Kept.{swapped_track, swapped_other, changed_here, unchanged}
use Rattle.fb_wanted.proofs.Elements.{at_left, at_end, set_same, set_other, removed_within, removed_other, removed_at, last_at, state_other}
use Rattle.fb_wanted.proofs.Elements.{state_at}
use Rattle.fb_wanted.proofs.Standing.{length-indexes_of, length-with_state, blocks-with_state, indexes_of-with_state}
use Rattle.fb_wanted.proofs.Sums.{sums-map}
use Rattle.fb_wanted.proofs.Weights.{sum_wanted, by-append, by-with_state, by_elsewhere, by_unwanted, by_wanted}

-- an offer is the same block's alone
same_index : (p q : ℕ) (a b : Block) → offer_of p a ≡ offer_of q b → p ≡ q
same_index p q a b h = ap (λ o. o.index) h

-- the offers hold with other tracks that have the same ones
pub offered_still : (es : List Entry) (was is : Track → List Offer) (offer_indexes : List ℕ) → AreOffered es was offer_indexes
    → ((t : Track) → is t ≡ was t) → AreOffered es is offer_indexes
offered_still es was is offer_indexes h same = record {
  sums = λ t. subst (λ l. AreSameBlocks (offered_blocks es l) (wanted_of (on_track t es))) (sym (same t)) (h.sums t);
  each = λ t i o at. h.each t i o (ap (λ l. slice_get l i) (sym (same t)) ∙ at);
  all = λ p e at yes'. let it = h.all p e at yes' in (it.0, it.1, ap (λ l. slice_get l it.0) (same e.block.track) ∙ it.2);
  one_each = h.one_each;
}

-- one more block, which isn't wanted
pub offered_pushed : (es : List Entry) (offers : Track → List Offer) (offer_indexes : List ℕ) (e : Entry) (offer_index : ℕ)
    → AreOffered es offers offer_indexes → is_wanted e.state ≡ false
    → AreOffered (es ++ e ∷ []) offers (offer_indexes ++ offer_index ∷ [])
offered_pushed es offers offer_indexes e offer_index h un = record {
  sums = λ t measure. omega (
    arith,
    ap (sum_by measure) (blocks_still es e (offers t) (found_each es offers offer_indexes t h)),
    h.sums t measure,
    by-append measure (is_of_track t) es (e ∷ []),
    by_unwanted measure (is_of_track t) e un,
  );
  each = λ t i o at. let its = h.each t i o at in
      record {
        entry = its.entry;
        there = at_left es e its.entry o.index its.there;
        on = its.on;
        wanted = its.wanted;
        index_is =
            at_left offer_indexes offer_index i o.index its.index_is;
      };
  all = λ p x at yes'. elim (old_or_last es e x p at) [
    | inl old ↦ let it = h.all p x old.1 yes' in (it.0, at_left offer_indexes offer_index it.0 p it.1, it.2)
    | inr last ↦ absurd (true≢false (sym yes' ∙ (ap (λ y. is_wanted y.state) last.1 ∙ un)))
  ];
  one_each = omega (arith, h.one_each, length-append es (e ∷ []), length-append offer_indexes (offer_index ∷ []));
}

module _ (es : List Entry) (offer_indexes : List ℕ) (p : ℕ) (e : Entry) (s : State) (at : slice_get es p ≡ Some e) where
  abbrev pub changed_entry : Entry
  changed_entry = record { block = e.block; state = s }

  -- offers are of the same blocks after the change
  same_sum : (measure : Block → ℕ) (os : List Offer)
      → sum_by measure (offered_blocks (with_state s p es) os) ≡ sum_by measure (offered_blocks es os)
  same_sum measure os = ap (λ bs. sum_by measure (map (λ o. get_or bs o.index no_block) os)) (blocks-with_state s p es)

  -- an entry after the change is the block itself, or as it was
  entry_is : (q : ℕ) (x : Entry) → slice_get (with_state s p es) q ≡ Some x → ((q ≡ p) × (changed_entry ≡ x)) ⊎ ((q ≡ p → ⊥) ×
      (slice_get es q ≡ Some x))
  entry_is q x there = elim (cases_eq q p) [
    | inl here ↦ inl (
      here,
      same_Some changed_entry x (sym (state_at s p e es at) ∙ (ap (slice_get (with_state s p es)) (sym here)
          ∙ there)),
    )
    | inr other ↦ inr (other, sym (state_other s p q es other) ∙ there)
  ]

  -- the offer of another block is still that of its block
  its_still : (t : Track) (i : ℕ) (o : Offer) (more : List ℕ) → (o.index ≡ p → ⊥) → slice_get more o.index ≡ slice_get offer_indexes o.index
      → IsItsOffer es offer_indexes t i o → IsItsOffer (with_state s p es) more t i o
  its_still t i o more other index its = record {
    entry = its.entry;
    there = state_other s p o.index es other ∙ its.there;
    on = its.on;
    wanted = its.wanted;
    index_is = index ∙ its.index_is;
  }

  -- the offer of a wanted block isn't that of one which isn't wanted
  not_its : (t : Track) (i : ℕ) (o : Offer) → is_wanted e.state ≡ false → IsItsOffer es offer_indexes t i o → o.index ≡ p → ⊥
  not_its t i o un its same =
      let one = same_Some e its.entry (sym at ∙ (ap (slice_get es) (sym same) ∙ its.there)) in
      true≢false (sym its.wanted ∙ (ap (λ x. is_wanted x.state) (sym one) ∙ un))

  -- a change that makes no block wanted, or unwanted
  pub offered_alike : (offers : Track → List Offer) → AreOffered es offers offer_indexes → is_wanted s ≡ is_wanted e.state → AreOffered
      (with_state s p es) offers offer_indexes
  offered_alike offers h alike = record {
    sums = λ t measure.
        let part : sum_wanted measure (is_of_track t) (changed_entry ∷ []) ≡ sum_wanted measure (is_of_track t) (e ∷ [])
        = elim (cases_Bool (same_track t e.block.track)) [
          | inl on ↦ elim (cases_Bool (is_wanted e.state)) [
            | inl yes' ↦ rw (on, alike, yes') refl
            | inr no' ↦ rw (on, alike, no') refl
          ]
          | inr off ↦ rw off refl
        ] in
        omega (arith, same_sum measure (offers t), h.sums t measure, by-with_state measure (is_of_track t) s p e es at, part);
    each = λ t i o there. let its = h.each t i o there in elim (cases_eq o.index p) [
      | inl here ↦
          let one = same_Some e its.entry (sym at ∙ (ap (slice_get es) (sym here) ∙ its.there)) in
          record {
            entry = changed_entry;
            there = ap (slice_get (with_state s p es)) here ∙ state_at s p e es at;
            on = ap (λ x. same_track x.block.track t) one ∙ its.on;
            wanted = alike ∙ (ap (λ x. is_wanted x.state) one ∙ its.wanted);
            index_is = its.index_is;
          }
      | inr other ↦ its_still t i o offer_indexes other refl its
    ];
    all = λ q x there yes'. elim (entry_is q x there) [
      | inl here ↦
          let was = sym alike ∙ (ap (λ y. is_wanted y.state) here.1 ∙ yes') in
          let it = h.all p e at was in
          let block = ap (λ y. y.block) here.1 in (
            it.0,
            ap (slice_get offer_indexes) here.0 ∙ it.1,
            ap (λ b. slice_get (offers b.track) it.0) (sym block) ∙ (it.2 ∙ (ap (λ b. Some (offer_of p b)) block ∙ ap (λ k. Some
                (offer_of k x.block)) (sym here.0))),
          )
      | inr other ↦ h.all q x other.1 yes'
    ];
    one_each = h.one_each ∙ sym (length-with_state s p es);
  }

  -- the block isn't offered yet, and is wanted from now on: its offer stands behind the others
  module _ (tracks new : List (List OnTrack)) (h : AreOffered es (offers_at tracks) offer_indexes) (un : is_wanted e.state ≡ false)
      (wanted : is_wanted s ≡ true)
      (changed : IsChanged tracks new e.block.track (with_offer (offer_of p e.block))) where
    abbrev pub track : Track
    track = e.block.track

    abbrev pub offer_index : ℕ
    offer_index = length (offers_at tracks track)

    one_more : (t : Track) → same_track track t ≡ true → offers_at new t ≡ offers_at tracks t ++ offer_of p e.block ∷ []
    one_more t here = ap (λ o. o.offers) (changed_here tracks new track (with_offer (offer_of p e.block)) changed t here)

    as_before : (t : Track) → same_track track t ≡ false → offers_at new t ≡ offers_at tracks t
    as_before t other = ap (λ o. o.offers) (unchanged tracks new track (with_offer (offer_of p e.block)) changed t other)

    offer_index_of : (t : Track) → same_track track t ≡ true → length (offers_at tracks t) ≡ offer_index
    offer_index_of t here = ap (λ u. length (offers_at tracks u)) (sym (same_tracks track t here))

    room : p < length offer_indexes
    room = omega (arith, slice_get_within es p e at, h.one_each)

    pushed_sum : (measure : Block → ℕ) (os : List Offer)
        → sum_by measure (offered_blocks es (os ++ offer_of p e.block ∷ [])) ≡ sum_by measure (offered_blocks es os) + measure e.block
    pushed_sum measure os = ap (sum_by measure) (map-append (λ o. block_at es o.index) os (offer_of p e.block ∷ []))
        ∙ (sum_by_push measure (offered_blocks es os) (block_at es p)
        ∙ ap (λ b. sum_by measure (offered_blocks es os) + measure b) (block_is es p e at))

    given_sums : (t : Track) → AreSameBlocks (offered_blocks (with_state s p es) (offers_at new t))
        (wanted_of (on_track t (with_state s p es)))
    given_sums t measure =
        let same = same_sum measure (offers_at new t) in
        let change = by-with_state measure (is_of_track t) s p e es at in
        let none = by_unwanted measure (is_of_track t) e un in
        elim (cases_Bool (same_track track t)) [
          | inl here ↦
              let own = by_wanted measure (is_of_track t) changed_entry (swapped_track track t here) wanted in
              let sums = ap (λ os. sum_by measure (offered_blocks es os)) (one_more t here) ∙ pushed_sum measure (offers_at tracks t) in
              omega (arith, same, sums, h.sums t measure, change, none, own)
          | inr other ↦
              let off = by_elsewhere measure (is_of_track t) changed_entry (swapped_other track t other) in
              let sums = ap (λ os. sum_by measure (offered_blocks es os)) (as_before t other) in
              omega (arith, same, sums, h.sums t measure, change, none, off)
        ]

    old_its : (t : Track) (i : ℕ) (o : Offer) → slice_get (offers_at tracks t) i ≡ Some o → IsItsOffer (with_state s p es)
        (set offer_indexes p offer_index) t i o
    old_its t i o there =
        let its = h.each t i o there in
        let other = not_its t i o un its in
        its_still t i o (set offer_indexes p offer_index) other (set_other offer_indexes p o.index offer_index other) its

    given_its : (t : Track) (i : ℕ) (o : Offer) → slice_get (offers_at new t) i ≡ Some o → IsItsOffer (with_state s p es)
        (set offer_indexes p offer_index) t i o
    given_its t i o there = elim (cases_Bool (same_track track t)) [
      | inl here ↦ elim (old_or_last (offers_at tracks t) (offer_of p e.block) o i (ap (λ l. slice_get l i) (sym (one_more t here))
          ∙ there)) [
            | inl old ↦ old_its t i o old.1
            | inr last ↦
                let index : o.index ≡ p = ap (λ x. x.index) last.1 in
                let is : i ≡ offer_index = last.0 ∙ offer_index_of t here in
                record {
                  entry = changed_entry;
                  there = ap (slice_get (with_state s p es)) index ∙ state_at s p e es at;
                  on = here;
                  wanted = wanted;
                  index_is = ap (slice_get (set offer_indexes p offer_index)) index
                      ∙ (set_same offer_indexes p offer_index room ∙ ap (λ k. Some k) (sym is));
                }
          ]
      | inr other ↦ old_its t i o (ap (λ l. slice_get l i) (sym (as_before t other)) ∙ there)
    ]

    still_there : (t : Track) (i : ℕ) (o : Offer) → slice_get (offers_at tracks t) i ≡ Some o → slice_get (offers_at new t) i ≡ Some o
    still_there t i o there = elim (cases_Bool (same_track track t)) [
      | inl here ↦ ap (λ l. slice_get l i) (one_more t here) ∙ at_left (offers_at tracks t) (offer_of p e.block) o i there
      | inr other ↦ ap (λ l. slice_get l i) (as_before t other) ∙ there
    ]

    pub offered_given : AreOffered (with_state s p es) (offers_at new) (set offer_indexes p offer_index)
    offered_given = record {
      sums = given_sums;
      each = given_its;
      all = λ q x there yes'. elim (entry_is q x there) [
        | inl here ↦
            let block = ap (λ y. y.block) here.1 in
            let last = ap (λ l. slice_get l offer_index) (one_more track (track_itself track)) ∙ at_end (offers_at tracks track)
            (offer_of p e.block) in (
              offer_index,
              ap (slice_get (set offer_indexes p offer_index)) here.0 ∙ set_same offer_indexes p offer_index room,
              ap (λ b. slice_get (offers_at new b.track) offer_index) (sym block) ∙ (last ∙ (ap (λ b. Some (offer_of p b)) block ∙ ap
                  (λ k. Some (offer_of k x.block)) (sym here.0))),
            )
        | inr other ↦ let it = h.all q x other.1 yes' in
            (it.0, set_other offer_indexes p q offer_index other.0 ∙ it.1, still_there x.block.track it.0 (offer_of q x.block) it.2)
      ];
      one_each = length-set offer_indexes p offer_index ∙ (h.one_each ∙ sym (length-with_state s p es));
    }

  -- the block is offered
  module _ (tracks : List (List OnTrack)) (i : ℕ) (h : AreOffered es (offers_at tracks) offer_indexes) (was : is_wanted e.state ≡ true)
      (index_is : slice_get offer_indexes p ≡ Some i) where
    abbrev pub own_track : Track
    own_track = e.block.track

    abbrev pub offers : List Offer
    offers = offers_at tracks own_track

    abbrev pub moved : Offer
    moved = last_of offers

    own_at : slice_get offers i ≡ Some (offer_of p e.block)
    own_at = let it = h.all p e at was in ap (slice_get offers) (same_Some i it.0 (sym index_is ∙ it.1)) ∙ it.2

    pub own_within : i < length offers
    own_within = slice_get_within offers i (offer_of p e.block) own_at

    moved_at : slice_get offers (length offers - 1) ≡ Some moved
    moved_at = last_at offers i no_offer (omega (arith, own_within))

    moved_its : IsItsOffer es offer_indexes own_track (length offers - 1) moved
    moved_its = h.each own_track (length offers - 1) moved moved_at

    pub moved_there : moved.index < length offer_indexes
    moved_there = slice_get_within offer_indexes moved.index (length offers - 1) moved_its.index_is

    -- it isn't wanted any more: the last offer of its track stands where its own did
    module _ (new : List (List OnTrack)) (un : is_wanted s ≡ false) (changed : IsChanged tracks new e.block.track (without_offer i)) where
      one_less : (t : Track) → same_track own_track t ≡ true → offers_at new t ≡ taken_out i offers
      one_less t here = ap (λ o. o.offers) (changed_here tracks new own_track (without_offer i) changed t here) ∙ ap (λ u. taken_out i
          (offers_at tracks u)) (sym (same_tracks own_track t here))

      as_they_were : (t : Track) → same_track own_track t ≡ false → offers_at new t ≡ offers_at tracks t
      as_they_were t other = ap (λ o. o.offers) (unchanged tracks new own_track (without_offer i) changed t other)

      rest_sum : (measure : Block → ℕ) → sum_by measure (offered_blocks es (taken_out i offers)) + measure e.block
          ≡ sum_by measure (offered_blocks es offers)
      rest_sum measure =
          let its = λ (o : Offer). measure (block_at es o.index) in
          let own = ap its (get_or_from_slice_get offers i (offer_of p e.block) no_offer own_at) ∙ ap measure (block_is es p e at) in
          ap (λ n. n + measure e.block) (sums-map measure (λ o. block_at es o.index) (taken_out i offers))
          ∙ (ap (λ n. sum_by its (taken_out i offers) + n) (sym own)
          ∙ (sum_by-swap_remove its offers i no_offer own_within ∙ sym (sums-map measure (λ o. block_at es o.index) offers)))

      taken_sums : (t : Track) → AreSameBlocks (offered_blocks (with_state s p es) (offers_at new t))
          (wanted_of (on_track t (with_state s p es)))
      taken_sums t measure =
          let same = same_sum measure (offers_at new t) in
          let change = by-with_state measure (is_of_track t) s p e es at in
          let none = by_unwanted measure (is_of_track t) changed_entry un in
          elim (cases_Bool (same_track own_track t)) [
            | inl here ↦
                let own = by_wanted measure (is_of_track t) e (swapped_track own_track t here) was in
                let sums = ap (λ os. sum_by measure (offered_blocks es os)) (one_less t here) in
                let before = ap (λ u. sum_by measure (offered_blocks es (offers_at tracks u))) (same_tracks own_track t here) in
                omega (arith, same, sums, rest_sum measure, before, h.sums t measure, change, none, own)
            | inr other ↦
                let off = by_elsewhere measure (is_of_track t) e (swapped_other own_track t other) in
                let sums = ap (λ os. sum_by measure (offered_blocks es os)) (as_they_were t other) in
                omega (arith, same, sums, h.sums t measure, change, none, off)
          ]

      -- an offer whose block is neither the one that changes nor the one whose offer is moved
      other_its : (t : Track) (j : ℕ) (o : Offer) → (o.index ≡ p → ⊥) → (o.index ≡ moved.index → ⊥) → IsItsOffer es offer_indexes t j o
          → IsItsOffer (with_state s p es) (set offer_indexes moved.index i) t j o
      other_its t j o not_own not_moved its = its_still t j o (set offer_indexes moved.index i) not_own
          (set_other offer_indexes moved.index o.index i not_moved) its

      -- a block with another index is another
      apart : (q : ℕ) (j k : ℕ) → slice_get offer_indexes q ≡ Some j → (index : ℕ) → slice_get offer_indexes index ≡ Some k
          → (j ≡ k → ⊥) → index ≡ q → ⊥
      apart q j k here index there ne same = ne (same_Some j k (sym here ∙ (ap (slice_get offer_indexes) (sym same) ∙ there)))

      -- a block of another track is another
      elsewhere : (t u : Track) (j k : ℕ) (a b : Offer) → IsItsOffer es offer_indexes t j a → IsItsOffer es offer_indexes u k b
          → same_track u t ≡ false → a.index ≡ b.index → ⊥
      elsewhere t u j k a b its other ne same =
          let one = same_Some its.entry other.entry (sym its.there ∙ (ap (slice_get es) same ∙ other.there)) in
          let on : same_track other.entry.block.track t ≡ true = ap (λ x. same_track x.block.track t) (sym one) ∙ its.on in
          true≢false (sym (ap (λ v. same_track v t) (sym (same_tracks other.entry.block.track u other.on)) ∙ on) ∙ ne)

      own_its : IsItsOffer es offer_indexes own_track i (offer_of p e.block)
      own_its = h.each own_track i (offer_of p e.block) own_at

      taken_its : (t : Track) (j : ℕ) (o : Offer) → slice_get (offers_at new t) j ≡ Some o → IsItsOffer (with_state s p es)
          (set offer_indexes moved.index i) t j o
      taken_its t j o there = elim (cases_Bool (same_track own_track t)) [
        | inl here ↦
            let at_j = ap (λ l. slice_get l j) (sym (one_less t here)) ∙ there in
            let low = removed_within offers i no_offer j o at_j in
            elim (cases_eq j i) [
              | inl same ↦
                  let is : moved ≡ o = same_Some moved o (sym (removed_at offers i no_offer (omega (arith, low, same))) ∙ (ap
                  (slice_get (taken_out i offers)) (sym same) ∙ at_j)) in
                  let not_own : moved.index ≡ p → ⊥ = apart p i (length offers - 1) index_is moved.index moved_its.index_is (λ e. absurd
                  (omega (arith, e, low, same))) in
                  subst (λ x. IsItsOffer (with_state s p es) (set offer_indexes moved.index i) t j x) is (record {
                    entry = moved_its.entry;
                    there = state_other s p moved.index es not_own ∙ moved_its.there;
                    on = ap (λ u. same_track moved_its.entry.block.track u) (sym (same_tracks own_track t here)) ∙ moved_its.on;
                    wanted = moved_its.wanted;
                    index_is = set_same offer_indexes moved.index i moved_there ∙ ap (λ k. Some k) (sym same);
                  })
              | inr ne ↦
                  let old : slice_get (offers_at tracks t) j ≡ Some o = ap (λ u. slice_get (offers_at tracks u) j) (sym
                  (same_tracks own_track t here)) ∙ (sym (removed_other offers i no_offer j ne low) ∙ at_j) in
                  let its = h.each t j o old in
                  other_its t j o (apart p i j index_is o.index its.index_is (λ e. ne (sym e)))
                  (apart moved.index (length offers - 1) j moved_its.index_is o.index its.index_is (λ e. absurd (omega (arith, e, low))))
                  its
            ]
        | inr other ↦
            let its = h.each t j o (ap (λ l. slice_get l j) (sym (as_they_were t other)) ∙ there) in
            other_its t j o (elsewhere t own_track j i o (offer_of p e.block) its own_its other) (elsewhere t own_track j
            (length offers - 1) o moved its moved_its other) its
      ]

      -- another block that is wanted stands at its index afterwards
      taken_there : (q : ℕ) (x : Entry) → (q ≡ p → ⊥) → slice_get es q ≡ Some x → is_wanted x.state ≡ true
          → (j : ℕ) × (slice_get (set offer_indexes moved.index i) q ≡ Some j) × (slice_get (offers_at new x.block.track) j ≡ Some
          (offer_of q x.block))
      taken_there q x not_own there yes' =
          let it = h.all q x there yes' in
          let k = it.0 in
          elim (cases_Bool (same_track own_track x.block.track)) [
            | inl here ↦
                let was_at : slice_get offers k ≡ Some (offer_of q x.block) = ap (λ u. slice_get (offers_at tracks u) k)
                (same_tracks own_track x.block.track here) ∙ it.2 in
                let low = slice_get_within offers k (offer_of q x.block) was_at in
                let not_i : k ≡ i → ⊥ = λ same. not_own (same_index q p x.block e.block (same_Some (offer_of q x.block)
                (offer_of p e.block) (sym was_at ∙ (ap (slice_get offers) same ∙ own_at)))) in
                elim (cases_eq k (length offers - 1)) [
                  | inl last ↦
                      let is : moved ≡ offer_of q x.block = same_Some moved (offer_of q x.block) (sym moved_at ∙ (ap
                      (slice_get offers) (sym last) ∙ was_at)) in
                      let index : moved.index ≡ q = ap (λ o. o.index) is in
                      let room : i + 1 < length offers = elim (cases_lt (i + 1) (length offers)) [
                        | inl less ↦ less
                        | inr past ↦ absurd
                            (not_i (omega (arith, past, own_within, last)))
                      ] in (
                        i,
                        ap (slice_get (set offer_indexes moved.index i)) (sym index) ∙ set_same offer_indexes moved.index i moved_there,
                        ap (λ l. slice_get l i) (one_less x.block.track here) ∙ (removed_at offers i no_offer room ∙ ap (λ o. Some o) is),
                      )
                  | inr ne ↦ (
                    k,
                    set_other offer_indexes moved.index q i (apart moved.index (length offers - 1) k moved_its.index_is q it.1 (λ e. ne
                        (sym e))) ∙ it.1,
                    ap (λ l. slice_get l k) (one_less x.block.track here) ∙ (removed_other offers i no_offer k not_i (elim (cases_lt
                        (k + 1) (length offers)) [ inl less ↦ less | inr past ↦ absurd (ne (omega (arith, past, low))) ]) ∙ was_at),
                  )
                ]
            | inr other ↦
                let its = h.each x.block.track k (offer_of q x.block) it.2 in (
                  k,
                  set_other offer_indexes moved.index q i (elsewhere x.block.track own_track k (length offers - 1)
                      (offer_of q x.block) moved its moved_its other) ∙ it.1,
                  ap (λ l. slice_get l k) (as_they_were x.block.track other) ∙ it.2,
                )
          ]

      pub offered_taken : AreOffered (with_state s p es) (offers_at new) (set offer_indexes moved.index i)
      offered_taken = record {
        sums = taken_sums;
        each = taken_its;
        all = λ q x there yes'. elim (entry_is q x there) [
          | inl here ↦ absurd (true≢false (sym yes' ∙ (ap (λ y. is_wanted y.state) (sym here.1) ∙ un)))
          | inr other ↦ taken_there q x other.0 other.1 yes'
        ];
        one_each = length-set offer_indexes moved.index i ∙ (h.one_each ∙ sym (length-with_state s p es));
      }

-- as many offers as wanted blocks
length-offers : (t : Track) (os : List Offer) (es : List Entry) → AreSameBlocks (offered_blocks es os) (wanted_of (on_track t es))
    → length os ≡ length (wanted_of (on_track t es))
length-offers t os es h =
    sym (length-map os (λ o. block_at es o.index))
    ∙ (sym (each_one (offered_blocks es os)) ∙ (h (λ b. 1) ∙ each_one (wanted_of (on_track t es))))

wanted-le : (es : List Entry) → length (wanted_of es) ≤ length es
wanted-le es = omega (arith, length-map (filter (λ e. is_wanted e.state) es) (λ e. e.block), filter-le (λ e. is_wanted e.state) es)

-- there are no more offers than blocks
pub offers-few : (t : Track) (os : List Offer) (es : List Entry) → AreSameBlocks (offered_blocks es os) (wanted_of (on_track t es))
    → length es ≤ 16000000 → length os ≤ 16000000
offers-few t os es h few = omega (arith, length-offers t os es h, wanted-le (on_track t es), filter-le (is_of_track t) es, few)

-- a block of a track isn't wanted: there are fewer offers than blocks of the track
pub offers-room : (es : List Entry) (p : ℕ) (e : Entry) (os : List Offer) → slice_get es p ≡ Some e → is_wanted e.state ≡ false
    → AreSameBlocks (offered_blocks es os) (wanted_of (on_track e.block.track es))
    → length os < length (indexes_of (is_of_track e.block.track) es)
offers-room es p e os at un h =
    let t = e.block.track in
    let own : Entry = record { block = e.block; state = Wanted } in
    let all = with_state Wanted p es in
    let more = by-with_state (λ b. 1) (is_of_track t) Wanted p e es at in
    let none = by_unwanted (λ b. 1) (is_of_track t) e un in
    let one = by_wanted (λ b. 1) (is_of_track t) own (track_itself t) refl in
    let most = wanted-le (on_track t all) in
    let count = each_one (wanted_of (on_track t all)) in
    let is = each_one (wanted_of (on_track t es)) in
    let same = sym (length-indexes_of (is_of_track t) all) ∙ ap length (indexes_of-with_state (λ b. same_track t b.track) Wanted p es) in
    omega (arith, length-offers t os es h, more, none, one, most, count, is, same)

-- the entry that stands for none
abbrev pub no_entry : Entry
no_entry = record { block = no_block; state = Wanted }
