use Rattle.fb_wanted.proofs.Words.{◌<◌, ◌∙◌, ap, sym, subst, refl, length, get_or, arith, slice_get-get_or, slice_get_read, offers_at}
use Rattle.fb_wanted.proofs.Words.{with_state, AreOffered}
use Rattle.fb_wanted.proofs.Numbers.{small_at}
use Rattle.fb_wanted.proofs.Offering.{own_within, moved_there, offered_taken, offered_given, offered_alike}
use Rattle.fb_wanted.proofs.Offering.{offers-few, offers-room, no_entry}
use Rattle.fb_wanted.proofs.offers.reoffer.Goals as goal

pub take_away-requires : goal.take_away-requires
take_away-requires c =
    let es = c.args.entries.now in
    let offer_indexes = c.args.offer_indexes.now.items in
    let p = c.args.index in
    let e = get_or es p no_entry in
    let h = c.requires.offered in
    let at = slice_get-get_or es p no_entry c.requires.there in
    let was = sym c.is_wanted.ensures ∙ c.if-is_wanted.true in
    let room : p < length offer_indexes = omega (arith, c.requires.there, h.one_each) in
    let i = c.index.result.now in
    let index = slice_get_read offer_indexes (length offer_indexes) p i refl room c.index.ensures in
    record {
      there = c.requires.tracks e at;
      index = own_within es offer_indexes p e c.args.state at c.args.tracks.now i h was index;
      moved = moved_there es offer_indexes p e c.args.state at c.args.tracks.now i h was index;
    }

pub give-requires : goal.give-requires
give-requires c =
    let es = c.args.entries.now in
    let e = get_or es c.args.index no_entry in
    let t = e.block.track in
    let at = slice_get-get_or es c.args.index no_entry c.requires.there in
    let own = c.requires.offered.sums t in
    let small = small_at es c.args.index e c.requires.small at in
    let un = sym c.is_wanted.ensures ∙ c.if-is_wanted.false in
    record {
      there = c.requires.tracks e at;
      room = omega (arith, offers-room es c.args.index e (offers_at c.args.tracks.now t) at un own, ap length (c.requires.indexes t));
      few = omega (arith, offers-few t (offers_at c.args.tracks.now t) es own c.requires.few);
      index = omega (arith, c.requires.there, c.requires.offered.one_each);
      light = small.0;
      short = small.1;
    }

pub returns-then-not-is_wanted-clause-offered : goal.returns-then-not-is_wanted-clause-offered
returns-then-not-is_wanted-clause-offered c =
    let es = c.args.entries.now in
    let offer_indexes = c.args.offer_indexes.now.items in
    let p = c.args.index in
    let h = c.requires.offered in
    let room : p < length offer_indexes = omega (arith, c.requires.there, h.one_each) in
    let index = slice_get_read offer_indexes (length offer_indexes) p c.index.result.now refl room c.index.ensures in
    let un = sym c.is_wanted-then-is_wanted.ensures ∙ c.if-not-is_wanted.true in
    subst (λ l. AreOffered (with_state c.args.state p es) (offers_at c.take_away.new.tracks) l) (sym c.take_away.ensures.indexes)
    (offered_taken es offer_indexes p (get_or es p no_entry) c.args.state
    (slice_get-get_or es p no_entry c.requires.there) c.args.tracks.now c.index.result.now h (sym c.is_wanted.ensures
    ∙ c.if-is_wanted.true) index
    c.take_away.new.tracks un c.take_away.ensures.tracks)

pub returns-else-not-is_wanted-clause-offered : goal.returns-else-not-is_wanted-clause-offered
returns-else-not-is_wanted-clause-offered c =
    let es = c.args.entries.now in
    let p = c.args.index in
    let yes' = sym c.is_wanted-then-is_wanted.ensures ∙ c.if-not-is_wanted.false in
    offered_alike es c.args.offer_indexes.now.items p (get_or es p no_entry) c.args.state (slice_get-get_or es p no_entry c.requires.there)
    (offers_at c.args.tracks.now) c.requires.offered
    (yes' ∙ sym (sym c.is_wanted.ensures ∙ c.if-is_wanted.true))

pub returns-then-is_wanted-2-clause-offered : goal.returns-then-is_wanted-2-clause-offered
returns-then-is_wanted-2-clause-offered c =
    let es = c.args.entries.now in
    let p = c.args.index in
    subst (λ l. AreOffered (with_state c.args.state p es) (offers_at c.give.new.tracks) l) (sym c.give.ensures.indexes)
    (offered_given es c.args.offer_indexes.now.items p (get_or es p no_entry) c.args.state
    (slice_get-get_or es p no_entry c.requires.there) c.args.tracks.now c.give.new.tracks c.requires.offered
    (sym c.is_wanted.ensures ∙ c.if-is_wanted.false) (sym c.is_wanted-else-is_wanted.ensures ∙ c.if-is_wanted-2.true) c.give.ensures.tracks)

pub returns-else-is_wanted-2-clause-offered : goal.returns-else-is_wanted-2-clause-offered
returns-else-is_wanted-2-clause-offered c =
    let es = c.args.entries.now in
    let p = c.args.index in
    offered_alike es c.args.offer_indexes.now.items p (get_or es p no_entry) c.args.state (slice_get-get_or es p no_entry c.requires.there)
    (offers_at c.args.tracks.now) c.requires.offered
    ((sym c.is_wanted-else-is_wanted.ensures ∙ c.if-is_wanted-2.false) ∙ sym (sym c.is_wanted.ensures ∙ c.if-is_wanted.false))
