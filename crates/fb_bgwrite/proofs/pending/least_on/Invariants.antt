use Rattle.fb_bgwrite.proofs.Words.{◌≡◌, ◌-◌, ◌≤◌, sum_by, take, Offer}
use Rattle.fb_bgwrite.proofs.pending.least_on.Given as goal

-- no offer so far is worth less
abbrev pub invariant-loop-offer : goal.invariant-loop-offer
invariant-loop-offer l = record {
  start : l.least ≤ l.start;
  none : sum_by (λ (o : Offer). l.least - o.worth) (take l.offer-index l.offers) ≡ 0;
}
