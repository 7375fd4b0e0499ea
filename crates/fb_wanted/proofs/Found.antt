-- Offers and their blocks, each found by its index among all registered ones.
use Rattle.fb_wanted.proofs.Words.{◌≡◌, ℕ, suc, ◌*◌, ◌<◌, List, [], ◌∷◌, ◌++◌, Some, length, option_map, slice_get, get_or, refl, ap, sym}
use Rattle.fb_wanted.proofs.Words.{◌∙◌, arith, sum_by, length-map, sum_by-cons, same_Some, slice_get_within, slice_get-get_or}
use Rattle.fb_wanted.proofs.Words.{slice_get-map, get_or_from_slice_get, same_tracks, Track, Block, Entry, Offer, blocks_of, AreOffers}
use Rattle.fb_wanted.proofs.Words.{AreSameBlocks, AreFound, offer_of, offered_blocks, no_block, on_track, wanted_of, AreOffered}
use Rattle.fb_units.specs.declared.types.Sweep.{Sweep}
use Rattle.fb_wanted.proofs.Numbers.{block_there, blocks-more}
use Rattle.fb_wanted.proofs.Elements.{at_left}

-- the block at an index among all
abbrev pub block_at : List Entry → ℕ → Block
block_at es index = get_or (blocks_of es) index no_block

pub block_is : (es : List Entry) (p : ℕ) (e : Entry) → slice_get es p ≡ Some e → block_at es p ≡ e.block
block_is es p e at = get_or_from_slice_get (blocks_of es) p e.block no_block (block_there es p e at)

-- each offer of a track is what the block at its index offers
pub found_each : (es : List Entry) (offers : Track → List Offer) (offer_indexes : List ℕ) (t : Track) → AreOffered es offers offer_indexes
    → AreFound es (offers t)
found_each es offers offer_indexes t h i o at =
    let its = h.each t i o at in
    let own = h.all o.index its.entry its.there its.wanted in
    let same : own.0 ≡ i = same_Some own.0 i (sym own.1 ∙ its.index_is) in
    let here : slice_get (offers t) i ≡ Some (offer_of o.index its.entry.block)
    = ap (slice_get (offers t)) (sym same) ∙ (ap (λ u. slice_get (offers u) own.0) (sym (same_tracks its.entry.block.track t its.on))
    ∙ own.2) in
    (its.entry.block, block_there es o.index its.entry its.there, same_Some o (offer_of o.index its.entry.block) (sym at ∙ here))

-- with one more block the offers are still of the same blocks
pub blocks_still : (es : List Entry) (e : Entry) (os : List Offer) → AreFound es os
    → offered_blocks (es ++ e ∷ []) os ≡ offered_blocks es os
blocks_still es e [] found = refl
blocks_still es e (o ∷ os) found =
    let its = found 0 o refl in
    let was = get_or_from_slice_get (blocks_of es) o.index its.0 no_block its.1 in
    let there = ap (λ bs. slice_get bs o.index) (blocks-more es e) ∙ at_left (blocks_of es) e.block its.0 o.index its.1 in
    let is = get_or_from_slice_get (blocks_of (es ++ e ∷ [])) o.index its.0 no_block there in
    ap (λ b. b ∷ offered_blocks (es ++ e ∷ []) os) (is ∙ sym was)
    ∙ ap (λ l. block_at es o.index ∷ l) (blocks_still es e os (λ i x at. found (suc i) x at))

-- what a measure is of an offer and of a block
abbrev of_offer : (Sweep → ℕ → ℕ) → Offer → ℕ
of_offer measure o = measure o.sweep o.worth

abbrev of_block : (Sweep → ℕ → ℕ) → Block → ℕ
of_block measure b = measure b.sweep (b.weight * b.count)

-- the offers add to each sum what their blocks do
as_blocks : (measure : Sweep → ℕ → ℕ) (es : List Entry) (os : List Offer) → AreFound es os
    → sum_by (of_offer measure) os ≡ sum_by (of_block measure) (offered_blocks es os)
as_blocks measure es [] found = refl
as_blocks measure es (o ∷ os) found =
    let its = found 0 o refl in
    let b = block_at es o.index in
    let same = get_or_from_slice_get (blocks_of es) o.index its.0 no_block its.1 in
    let one : of_offer measure o ≡ of_block measure b = ap (of_offer measure) its.2 ∙ ap (of_block measure) (sym same) in
    let rest = as_blocks measure es os (λ i x at. found (suc i) x at) in
    omega (arith, sum_by-cons (of_offer measure) o os, sum_by-cons (of_block measure) b (offered_blocks es os), one, rest)

pub are_offers : (t : Track) (es : List Entry) (os : List Offer) → AreSameBlocks (offered_blocks es os) (wanted_of (on_track t es))
    → AreFound es os → AreOffers os (on_track t es)
are_offers t es os same found measure = as_blocks measure es os found ∙ same (of_block measure)

-- the i-th of the blocks of offers
module _ (es : List Entry) (os : List Offer) (i : ℕ) (d : Offer) (found : AreFound es os) (room : i < length (offered_blocks es os)) where
  pub offer_there : i < length os
  offer_there = omega (arith, room, length-map os (λ o. block_at es o.index))

  here : slice_get os i ≡ Some (get_or os i d)
  here = slice_get-get_or os i d offer_there

  its : (b : Block) × (slice_get (blocks_of es) (get_or os i d).index ≡ Some b) × (get_or os i d ≡ offer_of (get_or os i d).index b)
  its = found i (get_or os i d) here

  listed : slice_get (offered_blocks es os) i ≡ Some (block_at es (get_or os i d).index)
  listed = slice_get-map (λ o. block_at es o.index) os i ∙ ap (option_map (λ o. block_at es o.index)) here

  pub entry_there : (get_or os i d).index < length es
  entry_there = omega (arith, slice_get_within (blocks_of es) (get_or os i d).index its.0 its.1, length-map es (λ e. e.block))

  pub block_read : (e : Entry) → slice_get (offered_blocks es os) i ≡ Some (get_or es (get_or os i d).index e).block
  block_read e =
      let p = (get_or os i d).index in
      listed ∙ ap (λ b. Some b) (block_is es p (get_or es p e) (slice_get-get_or es p e entry_there))

  pub sweep_read : (b : Block) → slice_get (offered_blocks es os) i ≡ Some b → (get_or os i d).sweep ≡ b.sweep
  sweep_read b at =
      let p = (get_or os i d).index in
      let same = sym (get_or_from_slice_get (blocks_of es) p its.0 no_block its.1) ∙ same_Some (block_at es p) b (sym listed ∙ at) in
      ap (λ (o : Offer). o.sweep) its.2 ∙ ap (λ (x : Block). x.sweep) same
