use Rattle.fb_wanted.proofs.Words.{sym, subst, AreSameBlocks, offered_blocks, wanted_of}
use Rattle.fb_wanted.proofs.Offering.{offers-few}
use Rattle.fb_wanted.proofs.track_blocks.TrackBlocks.wanted.Goals as goal

pub new-requires-clause-found : goal.new-requires-clause-found
new-requires-clause-found c = c.self.invariant.5

pub new-requires-clause-few : goal.new-requires-clause-few
new-requires-clause-few c =
    let self = c.self.inside in offers-few self.track self.offers.now self.entries.now c.self.invariant.4 c.self.invariant.1

pub returns : goal.returns
returns c =
    let self = c.self.inside in
    subst (λ bs. AreSameBlocks bs (wanted_of c.args.self.now)) (sym c.new.ensures)
    (subst (λ es. AreSameBlocks (offered_blocks self.entries.now self.offers.now) (wanted_of es)) c.self.view_is c.self.invariant.4)
