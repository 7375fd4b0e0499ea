use Rattle.fb_bgwrite.proofs.Words.{◌≡◌, ◌+◌, ◌-◌, sum_by, take, Offer}
use Rattle.fb_bgwrite.proofs.pending.are_longer.Given as goal

-- each offer so far is worth more
abbrev pub invariant-loop-offer : goal.invariant-loop-offer
invariant-loop-offer l = sum_by (λ (o : Offer). l.most + 1 - o.worth) (take l.offer-index l.offers) ≡ 0
