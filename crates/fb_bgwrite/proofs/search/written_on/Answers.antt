use Rattle.fb_bgwrite.proofs.Words.{arith, sym, subst}
use Rattle.fb_plan.proofs.Offered.{offers-in-turn}
use Rattle.fb_bgwrite.specs.ByAngle.{as_offers, AreSpots}
use Rattle.fb_bgwrite.proofs.ByAngle.{as_few, spots_offer}
use Rattle.fb_bgwrite.proofs.search.written_on.Goals as goal

pub written_within-requires-clause-sweeps : goal.written_within-requires-clause-sweeps
written_within-requires-clause-sweeps c =
    let spots = c.in-Some.spots.now in
    let are = subst (AreSpots spots) (sym c.requires.its) c.in-Some.ensures in
    offers-in-turn (as_offers spots) c.args.blocks.now (spots_offer spots c.args.blocks.now are) c.args.search.now.disk.now
    c.args.turning.now c.requires.turning c.requires.on_disk

pub written_within-requires-clause-few : goal.written_within-requires-clause-few
written_within-requires-clause-few c =
    let spots = c.in-Some.spots.now in
    let are = subst (AreSpots spots) (sym c.requires.its) c.in-Some.ensures in
    omega (arith, as_few spots c.offers-offers.result.now c.args.blocks.now are c.offers-offers.ensures.its, c.offers-offers.ensures.few)

pub written_by-requires-clause-sweeps : goal.written_by-requires-clause-sweeps
written_by-requires-clause-sweeps c = offers-in-turn c.offers-offers.result.now c.args.blocks.now c.offers-offers.ensures.its
    c.args.search.now.disk.now c.args.turning.now c.requires.turning c.requires.on_disk
