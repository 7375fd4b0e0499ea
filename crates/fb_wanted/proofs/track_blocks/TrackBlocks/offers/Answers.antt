use Rattle.fb_wanted.proofs.Words.{subst, AreOffers}
use Rattle.fb_wanted.proofs.Found.{are_offers}
use Rattle.fb_wanted.proofs.Offering.{offers-few}
use Rattle.fb_wanted.proofs.track_blocks.TrackBlocks.offers.Goals as goal

pub returns-clause-its : goal.returns-clause-its
returns-clause-its c =
    let self = c.self.inside in
    subst (AreOffers self.offers.now) c.self.view_is
    (are_offers self.track self.entries.now self.offers.now c.self.invariant.4 c.self.invariant.5)

pub returns-clause-few : goal.returns-clause-few
returns-clause-few c =
    let self = c.self.inside in offers-few self.track self.offers.now self.entries.now c.self.invariant.4 c.self.invariant.1
