use Rattle.fb_detour.proofs.Words.{take, ℕ, ◌+◌, ◌-◌, ◌≤◌, sum_by, Offer, late_gain, IsBounded, bin_at, sum_of_first}
use Rattle.fb_detour.proofs.bins.add_late.Given as goal

abbrev pub invariant-loop-offer : goal.invariant-loop-offer
invariant-loop-offer l =
    let seen = take l.offer-index l.target.offers.now in record {
      most : (leave : ℕ) → l.leaves.grid.begin ≤ leave → IsBounded l.leaves leave
          → sum_by (late_gain l.target.turning l.search.gap.now (leave + l.leaves.move_on)) seen
          ≤ sum_of_first (l.leaves.grid.bins - 1 - bin_at l.leaves.grid leave + 1) l.bins;
      small : (n : ℕ) → n ≤ l.leaves.grid.bins → sum_of_first n l.bins ≤ sum_by (λ (offer : Offer). offer.worth) seen;
    }
