use Rattle.fb_wanted.proofs.Words.{◌<◌, ◌∙◌, ap, sym, subst, length, slice_get, no_offer}
use Rattle.fb_wanted.proofs.Found.{offer_there, entry_there, block_read}
use Rattle.fb_wanted.proofs.wanted_blocks.WantedBlocks.get.Goals as goal

pub bounds-self-inside-i : goal.bounds-self-inside-i
bounds-self-inside-i c =
    let self = c.self.inside in
    let room = subst (λ bs. c.args.i < length bs) (sym c.self.view_is) c.requires in
    offer_there self.entries.now self.offers.now c.args.i no_offer c.self.invariant.0 room

pub bounds-self-inside-self-inside : goal.bounds-self-inside-self-inside
bounds-self-inside-self-inside c =
    let self = c.self.inside in
    let room = subst (λ bs. c.args.i < length bs) (sym c.self.view_is) c.requires in
    entry_there self.entries.now self.offers.now c.args.i _ c.self.invariant.0 room

pub returns : goal.returns
returns c =
    let self = c.self.inside in
    let room = subst (λ bs. c.args.i < length bs) (sym c.self.view_is) c.requires in
    ap (λ bs. slice_get bs c.args.i) (sym c.self.view_is) ∙ block_read self.entries.now self.offers.now c.args.i _ c.self.invariant.0 room _
