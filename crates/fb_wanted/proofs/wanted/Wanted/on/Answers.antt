use Rattle.fb_wanted.proofs.Words.{◌≡◌, ◌∙◌, List, [], length, ap, sym, subst, arith, none-some, Track, Entry, Offer, no_block_on}
use Rattle.fb_wanted.proofs.Words.{indexes_of, is_of_track, offers_at, AreSameBlocks, AreFound, offered_blocks, on_track, wanted_of}
use Rattle.fb_wanted.proofs.Words.{wanted_weight}
use Rattle.fb_wanted.proofs.Found.{found_each}
use Rattle.fb_wanted.proofs.Reading.{track_kept, track_weight}
use Rattle.fb_wanted.proofs.wanted.Wanted.on.Goals as goal

-- what holds of the entries and the offers holds of the lists that are read from them
read : (P : List Entry → List Offer → Type 0) (es items : List Entry) (os offers : List Offer) → es ≡ items → os ≡ offers → P items offers
    → P es os
read P es items os offers same same_offers h = subst (λ l. P es l) (sym same_offers) (subst (λ l. P l offers) (sym same) h)

abbrev AreThose : Track → List Entry → List Offer → Type 0
AreThose t es os = AreSameBlocks (offered_blocks es os) (wanted_of (on_track t es))

pub new-requires : goal.new-requires
new-requires c =
    let self = c.self.inside in
    let es = self.entries.items in
    let t = c.args.track in
    let is = c.as_slice.ensures.value in
    let on = c.in-Some.ensures.some in
    let kept = track_kept es self.tasks.items self.tracks c.self.invariant.0 t c.in-Some.on.now on in
    let most = track_weight es self.tasks.items self.tracks c.self.invariant.0 t c.in-Some.on.now on in
    let same = c.offers.ensures ∙ ap (λ o. o.offers) on in
    let found = found_each es (offers_at self.tracks) self.offer_indexes.items t c.self.invariant.5 in
    record {
      its = c.indexes.ensures ∙ (kept.0 ∙ ap (indexes_of (is_of_track t)) (sym is));
      few = omega (arith, ap length is, c.self.invariant.0.few);
      weight = c.weight.ensures ∙ (kept.1 ∙ ap (wanted_weight t) (sym is));
      small = omega (arith, c.weight.ensures, most);
      blocks = read (AreThose t) c.as_slice.result.now es c.offers.result.now (offers_at self.tracks t) is same (c.self.invariant.5.sums t);
      found = read AreFound c.as_slice.result.now es c.offers.result.now (offers_at self.tracks t) is same found;
    }

pub new-requires-in-None : goal.new-requires-in-None
new-requires-in-None c =
    let self = c.self.inside in
    let es = self.entries.items in
    let t = c.args.track in
    let slice = c.as_slice-in-None.result.now in
    let is = c.as_slice-in-None.ensures.value in
    let on = c.in-None.ensures.none in
    let kept = track_kept es self.tasks.items self.tracks c.self.invariant.0 t no_block_on on in
    record {
      its = kept.0 ∙ ap (indexes_of (is_of_track t)) (sym is);
      few = omega (arith, ap length is, c.self.invariant.0.few);
      weight = kept.1 ∙ ap (wanted_weight t) (sym is);
      small = omega arith;
      blocks = read (AreThose t) slice es [] (offers_at self.tracks t) is (ap (λ o. o.offers) on) (c.self.invariant.5.sums t);
      found = λ i offer at. absurd (none-some offer at);
    }
