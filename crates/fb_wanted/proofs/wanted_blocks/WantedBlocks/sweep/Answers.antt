use Rattle.fb_wanted.proofs.Words.{◌<◌, ◌∙◌, ap, sym, subst, length, slice_get, no_offer}
use Rattle.fb_wanted.proofs.Found.{offer_there, sweep_read}
use Rattle.fb_wanted.proofs.wanted_blocks.WantedBlocks.sweep.Goals as goal

pub bounds-self-inside-i : goal.bounds-self-inside-i
bounds-self-inside-i c =
    let self = c.self.inside in
    let room = subst (λ bs. c.args.i < length bs) (sym c.self.view_is) c.requires in
    offer_there self.entries.now self.offers.now c.args.i no_offer c.self.invariant.0 room

pub returns : goal.returns
returns c = λ block at.
    let self = c.self.inside in
    let room = subst (λ bs. c.args.i < length bs) (sym c.self.view_is) c.requires in
    sweep_read self.entries.now self.offers.now c.args.i _ c.self.invariant.0 room block (ap (λ bs. slice_get bs c.args.i) c.self.view_is
    ∙ at)
