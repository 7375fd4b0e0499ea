-- The time on a track in bins.
use Rattle.fb_units.proofs.Comparing.{if_le}
use Rattle.fb_detour.proofs.Words.{Bool, List, arith, get_or, if◌then◌else◌, length, nat_lt, refl, replicate, suc, take, true, zero, ℕ}
use Rattle.fb_detour.proofs.Words.{◌*◌, ◌+◌, ◌-◌, ◌<◌, ◌^◌, ◌≡◌, ◌≤◌, nat_tests, sum_by, Sweep, Offer, added}
use Rattle.fb_detour.proofs.Words.{IsReady, bin_at, sum_of_first, Stop}
use Rattle.fb_detour.specs.declared.bins.Grid.{Grid}
use Rattle.fb_detour.proofs.Arrays.{sum-cons}
use Rattle.fb_detour.proofs.Ceilings.{if-le-n}
use Rattle.fb_detour.proofs.Offers.{bound-more, small-sum, within-more}
use Rattle.fb_detour.proofs.Packing.{div-rises}

-- no instant lies in an earlier bin than an earlier one does
pub no_earlier_bin : (grid : Grid) (a b : ℕ) → a ≤ b → bin_at grid a ≤ bin_at grid b
no_earlier_bin grid a b le = omega (arith, div-rises (a - grid.begin) (b - grid.begin) (2 ^ grid.shift) (omega (arith, le)))

-- no worth, no sum
pub no_sum : (m n : ℕ) → sum_of_first n (replicate m 0) ≡ 0
no_sum m zero = refl
no_sum zero (suc n) = refl
no_sum (suc m) (suc n) = omega (arith, sum-cons 0 (replicate m 0) n, no_sum m n)

-- each sum over bins is small, if it is no more than the worth of offers of a stop
pub bins-small : (stop : Stop) (i k count : ℕ) (bins : List ℕ) → IsReady stop
    → ((n : ℕ) → n ≤ count → sum_of_first n bins ≤ sum_by (λ (offer : Offer). offer.worth) (take i stop.offers.now))
    → k < count → sum_of_first (k + 1) bins ≤ 16000000 * 2048000
bins-small stop i k count bins ready so_far less =
    omega (arith, so_far (k + 1) (omega (arith, less)), small-sum stop (λ (o : Offer). o.worth) i (λ o. omega arith) ready)

-- one offer more, whose worth goes to all sums over its index
module _ (f : Offer → ℕ) (offers : List Offer) (i : ℕ) (d : Offer) (within : i < length offers) (old new : List ℕ) (index n : ℕ)
    (grown : sum_of_first n new ≡ sum_of_first n old + (if nat_lt index n then (get_or offers i d).worth else 0)) where
  -- the sum is no less than what it bounds, if that grows only where the sum does
  pub most-more : (passes : Sweep → Bool) → f (get_or offers i d) ≡ added passes (get_or offers i d)
      → (passes (get_or offers i d).sweep ≡ true → index < n) → sum_by f (take i offers) ≤ sum_of_first n old
      → sum_by f (take (i + 1) offers) ≤ sum_of_first n new
  most-more passes is inside so_far =
      let o = get_or offers i d in
      let gain = if_le (passes o.sweep) (nat_lt index n) o.worth (λ by. let less = inside by in grind (arith, nat_tests)) in
      bound-more f offers i d within (sum_of_first n old) (sum_of_first n new) so_far (omega (arith, grown, gain, is))

  -- nor more than all worth
  pub worth-more : sum_of_first n old ≤ sum_by (λ (offer : Offer). offer.worth) (take i offers)
      → sum_of_first n new ≤ sum_by (λ (offer : Offer). offer.worth) (take (i + 1) offers)
  worth-more so_far = within-more (λ (offer : Offer). offer.worth) offers i d within (sum_of_first n old) (sum_of_first n new) so_far
      (omega (arith, grown, if-le-n (nat_lt index n) (get_or offers i d).worth))
