use Rattle.fb_bgwrite.proofs.Words.{◌≡◌, ℕ, take, sum_by, Sweep, Offer}
use Rattle.fb_bgwrite.specs.ByAngle.{over_spots, AreByAngle}
use Rattle.fb_bgwrite.proofs.spots.spots_of.Given as goal

abbrev pub invariant-loop-offer : goal.invariant-loop-offer
invariant-loop-offer l = record {
  by_angle : AreByAngle l.spots.items;
  same : (measure : Sweep → ℕ → ℕ) → over_spots measure l.spots.items
      ≡ sum_by (λ (o : Offer). measure o.sweep o.worth) (take l.offer-index l.offers);
}
