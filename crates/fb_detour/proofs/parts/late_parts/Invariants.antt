use Rattle.fb_detour.proofs.Words.{get_or, take, ℕ, ◌*◌, ◌+◌, ◌-◌, ◌<◌, ◌≡◌, ◌≤◌, sum_by, Offer, late_gain, late_step}
use Rattle.fb_detour.proofs.parts.late_parts.Given as goal

abbrev pub invariant-loop-offer : goal.invariant-loop-offer
invariant-loop-offer l =
    let seen = take l.offer-index l.stop.offers.now in
    let gain = λ (from : ℕ). late_gain l.stop.turning l.gap from in record {
      parts : (k : ℕ) → k < 32 → sum_by (gain (l.gap.now + k * late_step l.gap)) seen ≤ get_or l.parts k 0;
      small : (k : ℕ) → k < 32 → get_or l.parts k 0 ≤ sum_by (λ (offer : Offer). offer.worth) seen;
      limits : (k : ℕ) → k < 32 → sum_by (gain (get_or l.limits k 0)) seen ≤ get_or l.parts k 0;
      spread : (k : ℕ) → k < 33 → l.gap.now + (k - 1) * late_step l.gap ≤ get_or l.limits k 0;
      end : sum_by (gain (get_or l.limits 32 0)) seen ≤ 0;
      start : get_or l.limits 0 0 ≡ l.gap.now;
    }
