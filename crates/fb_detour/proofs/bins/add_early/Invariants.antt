use Rattle.fb_detour.proofs.Words.{take, ℕ, ◌+◌, ◌≤◌, sum_by, Offer, added, passes_by, bin_at, sum_of_first}
use Rattle.fb_detour.proofs.bins.add_early.Given as goal

abbrev pub invariant-loop-offer : goal.invariant-loop-offer
invariant-loop-offer l =
    let seen = take l.offer-index l.stop.offers.now in record {
      most : (leave : ℕ) → sum_by (added (passes_by l.stop.turning leave)) seen ≤ sum_of_first (bin_at l.grid leave + 1) l.bins;
      small : (n : ℕ) → n ≤ l.grid.bins → sum_of_first n l.bins ≤ sum_by (λ (offer : Offer). offer.worth) seen;
    }
