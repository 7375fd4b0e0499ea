-- The upper bounds on the depth of a sector, by band.
use Rattle.fb_wanted.proofs.Words.{◌≡◌, ℕ, ◌+◌, ◌/◌, ◌<◌, ◌≤◌, inl, inr, ◌==◌, List, [], ◌∷◌, ◌++◌, Some, Bool, true, false, if◌then◌else◌}
use Rattle.fb_wanted.proofs.Words.{length, length-append, filter, slice_get, get_or, set, refl, ap, sym, ◌∙◌, arith, subst, sum_by}
use Rattle.fb_wanted.proofs.Words.{cases_Bool, nat_tests, filter-append, sum_by-append, old_or_last, same_tracks, Track, same_track, Block}
use Rattle.fb_wanted.proofs.Words.{Entry, State, Depth, blocks_of, depth_at, band_depth, no_depth, AreDeep, is_of_track, with_state}
use Rattle.std.proofs.Common.{nat_le}
use Rattle.fb_wanted.specs.Tracks.{band_of}
use Rattle.fb_wanted.specs.Depth.{is_in, weight_on, spare_for, deepened, IsDeep}
use Rattle.fb_wanted.proofs.Sums.{sum-with_state, sum-le}
use Rattle.fb_wanted.proofs.Numbers.{blocks-more}
use Rattle.fb_wanted.proofs.Standing.{length-with_state, items-with_state, blocks-with_state}

abbrev of_band : ℕ → Entry → Bool
of_band band entry = band_of entry.block == band

-- the depth of a sector among the blocks that pass a test
module _ (p : Entry → Bool) (lbn : ℕ) where
  depth-append : (xs ys : List Entry) → sum_by (weight_on lbn) (filter p (xs ++ ys))
      ≡ sum_by (weight_on lbn) (filter p xs) + sum_by (weight_on lbn) (filter p ys)
  depth-append xs ys = ap (sum_by (weight_on lbn)) (filter-append p xs ys) ∙ sum_by-append (weight_on lbn) (filter p xs) (filter p ys)

  depth-cons : (e : Entry) (es : List Entry)
      → sum_by (weight_on lbn) (filter p (e ∷ es)) ≡ sum_by (weight_on lbn) (filter p (e ∷ [])) + sum_by (weight_on lbn) (filter p es)
  depth-cons e es = depth-append (e ∷ []) es

  depth_there : (e : Entry) → p e ≡ true → sum_by (weight_on lbn) (filter p (e ∷ [])) ≡ weight_on lbn e
  depth_there e its = rw its (omega arith)

  depth_elsewhere : (e : Entry) → p e ≡ false → sum_by (weight_on lbn) (filter p (e ∷ [])) ≡ 0
  depth_elsewhere e other = rw other refl

-- the depth of a sector on a track is no more than on the band of that track
one_le : (t : Track) (lbn : ℕ) (e : Entry) → depth_at t lbn (e ∷ []) ≤ band_depth (t.cylinder / 64) lbn (e ∷ [])
one_le t lbn e = elim (cases_Bool (same_track t e.block.track)) [
  | inl here ↦
      let same = same_tracks t e.block.track here in
      let its : band_of e.block ≡ t.cylinder / 64 = ap (λ u. u.cylinder / 64) (sym same) in
      let band : of_band (t.cylinder / 64) e ≡ true = grind (arith, nat_tests) in
      rw (here, band) (omega arith)
  | inr off ↦ omega (arith, depth_elsewhere (is_of_track t) lbn e off)
]

pub depth-le_band : (t : Track) (lbn : ℕ) (es : List Entry) → depth_at t lbn es ≤ band_depth (t.cylinder / 64) lbn es
depth-le_band t lbn es = sum-le (depth_at t lbn) (band_depth (t.cylinder / 64) lbn) (depth-cons (is_of_track t) lbn)
    (depth-cons (of_band (t.cylinder / 64)) lbn) (omega arith) (one_le t lbn) es

-- a change of a block's state doesn't change depths
depth-with_state : (band lbn : ℕ) (s : State) (n : ℕ) (e : Entry) (es : List Entry) → slice_get es n ≡ Some e
    → band_depth band lbn (with_state s n es) ≡ band_depth band lbn es
depth-with_state band lbn s n e es at =
    let same : band_depth band lbn (record { block = e.block; state = s } ∷ []) ≡ band_depth band lbn (e ∷ [])
    = elim (cases_Bool (of_band band e)) [ inl here ↦ rw here refl | inr other ↦ rw other refl ] in
    omega (arith, same, sum-with_state (band_depth band lbn) (depth-cons (of_band band) lbn) s n e es at)

pub deep_set : (s : State) (n : ℕ) (e : Entry) (es : List Entry) (depths : List Depth) → slice_get es n ≡ Some e → AreDeep es depths
    → AreDeep (set es n (record { block = e.block; state = s })) depths
deep_set s n e es depths at h = subst (λ l. AreDeep l depths) (sym (items-with_state s n e es at)) (record {
  bounds = λ band.
      let bound = h.bounds band in
      record {
        most = λ lbn. omega (arith, depth-with_state band lbn s n e es at, bound.most lbn);
        behind = λ lbn past. omega (arith, depth-with_state band lbn s n e es at, bound.behind lbn past);
        small = omega (arith, length-with_state s n es, bound.small);
      };
  marked = λ i block at'. h.marked i block (ap (λ bs. slice_get bs i) (sym (blocks-with_state s n es)) ∙ at');
})

-- the bounds hold too with more bands that have no block
pub deep_still : (es : List Entry) (depths new : List Depth) → AreDeep es depths
    → ((k : ℕ) → get_or new k no_depth ≡ get_or depths k no_depth) → AreDeep es new
deep_still es depths new h stay = record {
  bounds = λ band. subst (IsDeep band es) (sym (stay band)) (h.bounds band);
  marked = λ i block at. ap (λ d. d.has_block) (stay (band_of block)) ∙ h.marked i block at;
}

-- the weight of one more block still fits in the 64 bits of a bound
pub deep_room : (es : List Entry) (depths : List Depth) (band weight : ℕ) → AreDeep es depths → length es < 16000000 → weight ≤ 1000
    → (get_or depths band no_depth).most + weight < 18446744073709551616
deep_room es depths band weight h few light = omega (arith, (h.bounds band).small, few, light)

-- the bound after one more block is registered
module _ (band : ℕ) (es : List Entry) (e : Entry) (d : Depth) (h : IsDeep band es d) where
  room : (lbn : ℕ) → e.block.lbn ≤ lbn → band_depth band lbn es + spare_for e.block d ≤ d.most
  room lbn from = elim (cases_Bool (nat_le (d.first + d.count) e.block.lbn)) [
    | inl behind ↦ let past : d.first + d.count ≤ e.block.lbn = grind (arith, nat_tests) in
        rw behind (h.behind lbn (omega (arith, past, from)))
    | inr other ↦ rw other (omega (arith, h.most lbn))
  ]

  deep_here : of_band band e ≡ true → e.block.weight ≤ 1000 → IsDeep band (es ++ e ∷ []) (deepened e.block d)
  deep_here its light =
      let more : (lbn w : ℕ) → weight_on lbn e ≡ w → band_depth band lbn (es ++ e ∷ []) ≡ band_depth band lbn es + w
      = λ lbn w is. depth-append (of_band band) lbn es (e ∷ [])
      ∙ ap (λ x. band_depth band lbn es + x) (depth_there (of_band band) lbn e its ∙ is) in
      record {
        most = λ lbn. elim (cases_Bool (is_in lbn e.block)) [
          | inl inside ↦ let from : e.block.lbn ≤ lbn = grind (arith, nat_tests) in
              omega (arith, more lbn e.block.weight (rw inside refl), room lbn from)
          | inr outside ↦ omega (arith, more lbn 0 (rw outside refl), h.most lbn)
        ];
        behind = λ lbn past.
            let outside : is_in lbn e.block ≡ false = grind (arith, nat_tests) in
            let from : e.block.lbn ≤ lbn = omega (arith, past) in
            omega (arith, more lbn 0 (rw outside refl), room lbn from);
        small = omega (arith, length-append es (e ∷ []), h.small, light);
      }

  deep_elsewhere : of_band band e ≡ false → IsDeep band (es ++ e ∷ []) d
  deep_elsewhere other =
      let same : (lbn : ℕ) → band_depth band lbn (es ++ e ∷ []) ≡ band_depth band lbn es
      = λ lbn. omega (arith, depth-append (of_band band) lbn es (e ∷ []), depth_elsewhere (of_band band) lbn e other) in
      record {
        most = λ lbn. omega (arith, same lbn, h.most lbn);
        behind = λ lbn past. omega (arith, same lbn, h.behind lbn past);
        small = omega (arith, length-append es (e ∷ []), h.small);
      }

-- a band with a block is marked
module _ (band : ℕ) (depths new : List Depth) (block : Block)
    (changed : (k : ℕ) → get_or new k no_depth
    ≡ (if band == k then deepened block (get_or depths k no_depth) else get_or depths k no_depth)) where
  still_marked : (k : ℕ) → (get_or depths k no_depth).has_block ≡ true → (get_or new k no_depth).has_block ≡ true
  still_marked k old = ap (λ d. d.has_block) (changed k) ∙ elim (cases_Bool (band == k)) [
    | inl here ↦ rw here refl
    | inr other ↦ rw other old
  ]

  marked_there : (k : ℕ) → band ≡ k → (get_or new k no_depth).has_block ≡ true
  marked_there k same = let here : (band == k) ≡ true = grind (arith, nat_tests) in ap (λ d. d.has_block) (changed k) ∙ rw here refl

pub deep_pushed : (es items : List Entry) (e : Entry) (band : ℕ) (depths new : List Depth) → items ≡ es ++ e ∷ [] → band ≡ band_of e.block
    → e.block.weight ≤ 1000 → AreDeep es depths
    → ((k : ℕ) → get_or new k no_depth ≡ (if band == k then deepened e.block (get_or depths k no_depth) else get_or depths k no_depth))
    → AreDeep items new
deep_pushed es items e band depths new list its light h changed = subst (λ l. AreDeep l new) (sym list) (record {
  bounds = λ k. subst (IsDeep k (es ++ e ∷ [])) (sym (changed k)) (elim (cases_Bool (band == k)) [
    | inl here ↦ rw here (deep_here k es e (get_or depths k no_depth) (h.bounds k) (ap (λ b. b == k) (sym its) ∙ here) light)
    | inr other ↦ rw other (deep_elsewhere k es e (get_or depths k no_depth) (h.bounds k) (ap (λ b. b == k) (sym its) ∙ other))
  ]);
  marked = λ i block at. elim (old_or_last (blocks_of es) e.block block i (ap (λ bs. slice_get bs i) (sym (blocks-more es e)) ∙ at)) [
    | inl old ↦ still_marked band depths new e.block changed (band_of block) (h.marked i block old.1)
    | inr last ↦ marked_there band depths new e.block changed (band_of block) (its ∙ ap band_of (sym last.1))
  ];
})
