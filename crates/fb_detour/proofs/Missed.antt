-- Offers whose passage ends too late for a stay.
use Rattle.fb_detour.proofs.Words.{arith, get_or, inl, inr, length, take, ℕ, ◌+◌, ◌-◌, ◌<◌, ◌≡◌, ◌≤◌, cases_Bool, sum_by-le-sum_by}
use Rattle.fb_detour.proofs.Words.{sum_by-take-le, sum_by_more, sum_by, Offer, added, passes_by, Turning, IsReady, missed, offered, Stop}
use Rattle.fb_detour.proofs.Ceilings.{sum-of-both}

either : (turning : Turning) (upto : ℕ) (o : Offer) → added (passes_by turning upto) o + missed turning upto o ≤ o.worth
either turning upto o = elim (cases_Bool (passes_by turning upto o.sweep)) [
  | inl by ↦ rw by (omega arith)
  | inr late ↦ rw late (omega arith)
]

module _ (stop : Stop) (upto : ℕ) (ready : IsReady stop) where
  abbrev misses : Offer → ℕ
  misses = missed stop.turning upto

  -- what is left of a stop's weight when the offers so far that come too late are taken off
  pub missed-so-far : (n : ℕ) → offered stop upto + sum_by misses (take n stop.offers.now) ≤ stop.weight
  missed-so-far n =
      let gain = added (passes_by stop.turning upto) in
      let offers = stop.offers.now in
      let both = sum_by-le-sum_by (λ (o : Offer). gain o + misses o) (λ o. o.worth) offers (either stop.turning upto) in
      omega (arith, both, sum-of-both gain misses offers, sum_by-take-le misses offers n, ready.weight)

  -- one offer more
  pub missed-more : (i most less : ℕ) (d : Offer) → i < length stop.offers.now → less ≡ misses (get_or stop.offers.now i d)
      → most + sum_by misses (take i stop.offers.now) ≡ stop.weight
      → (less ≤ most) × (most - less + sum_by misses (take (i + 1) stop.offers.now) ≡ stop.weight)
  missed-more i most less d within l h =
      let next = sum_by_more misses stop.offers.now i d within in
      let all = missed-so-far (i + 1) in
      (omega (arith, next, all, l, h), omega (arith, next, all, l, h))
