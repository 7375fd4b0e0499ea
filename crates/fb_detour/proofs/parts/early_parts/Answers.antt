use Rattle.fb_detour.proofs.Words.{arith, take, ℕ, ◌*◌, ◌+◌, ◌∙◌, ◌≡◌, ◌≤◌, sum_by, added, passes_by, IsReady, Stop}
use Rattle.fb_detour.proofs.Offers.{added-worth, all-of, small-sum}
use Rattle.fb_detour.proofs.parts.early_parts.Goals as goal

-- what the offers so far add up to an instant is small
small : (stop : Stop) (upto n sum : ℕ) → IsReady stop → sum ≡ sum_by (added (passes_by stop.turning upto)) (take n stop.offers.now)
    → sum ≤ 16000000 * 2048000
small stop upto n sum ready is =
    omega (arith, is, small-sum stop (added (passes_by stop.turning upto)) n (added-worth (passes_by stop.turning upto)) ready)

pub add_offer-requires-clause-room : goal.add_offer-requires-clause-room
add_offer-requires-clause-room c = λ k less.
    small c.args.stop.now (c.args.stop.now.turning.from + (k + 1) * c.args.step) c.loop-offer.offer-index _ c.requires.stop
    (c.loop-offer.invariant k less)

pub add_up-requires : goal.add_up-requires
add_up-requires c = record {
  room = λ k less. small c.args.stop.now (c.args.stop.now.turning.from + (k + 1) * c.args.step) c.loop-offer.offer-index _
      c.requires.stop (c.loop-offer.invariant k (omega (arith, less)));
}

pub returns : goal.returns
returns c =
    let stop = c.args.stop.now in
    let i = c.loop-offer.offer-index in
    let upto = λ (k : ℕ). stop.turning.from + (k + 1) * c.args.step in record {
      each = λ k less. c.add_up.ensures k (omega (arith, less)) ∙ (c.loop-offer.invariant k less
          ∙ all-of (added (passes_by stop.turning (upto k))) stop.offers.now i c.loop-offer-test.false);
      small = λ k less. small stop (upto k) i _ c.requires.stop (c.add_up.ensures k (omega (arith, less)) ∙ c.loop-offer.invariant k less);
    }
