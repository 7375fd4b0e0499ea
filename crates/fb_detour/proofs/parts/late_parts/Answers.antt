use Rattle.fb_detour.proofs.Words.{arith, get_or, length, subst, sym, take, ℕ, ◌*◌, ◌+◌, ◌-◌, ◌<◌, ◌≤◌, get_or-replicate, on_track}
use Rattle.fb_detour.proofs.Words.{Offer, IsStop, late_gain, late_most, late_step, stay}
use Rattle.fb_detour.proofs.Offers.{all-of, bound-more, gives, none-more, small-sum, sums-fall, within-more}
use Rattle.fb_detour.proofs.parts.late_parts.Goals as goal

pub stop_at-stop-requires-clause-on_disk : goal.stop_at-stop-requires-clause-on_disk
stop_at-stop-requires-clause-on_disk c = c.blocks_on-on_target.ensures.on_disk c.args.disk.now c.requires.blocks

pub loop-offer-init : goal.loop-offer-init
loop-offer-init c = record {
  parts = λ k less. omega arith;
  small = λ k less. let none = get_or-replicate {A = ℕ} 32 k 0 0 less in omega (arith, none);
  limits = λ k less. omega arith;
  spread = λ k less.
      subst (λ step. c.args.gap.now.now + (k - 1) * step ≤ get_or c.first_limits-limits.result k 0) c.late_step-step.ensures
      (omega (arith, c.first_limits-limits.ensures k less));
  end = omega arith;
  start = omega (arith, c.first_limits-limits.ensures 0 (omega arith));
}

pub loop-offer-preserved : goal.loop-offer-preserved
loop-offer-preserved c =
    let gap = c.args.gap.now in
    let stop = c.stop_at-stop.result in
    let offers = stop.offers.now in
    let i = c.loop-offer.offer-index in
    let within = c.loop-offer-test.true in
    let so_far = c.loop-offer.invariant in
    let new = c.add_late.ensures in
    let limit = λ (k : ℕ). get_or c.add_late.new.limits k 0 in
    let gain = λ (from : ℕ). late_gain stop.turning gap from in
    let turning = c.stop_at-stop.ensures.stop.turning in
    let some : 0 < stop.turning.rotation = omega (arith, c.args.disk.now.some_rotation, turning.rotation) in
    let old = λ (k : ℕ). get_or c.loop-offer.limits k 0 in
    let falls = λ (k : ℕ). sums-fall stop.turning gap (old k) (limit k) (take i offers) some (new.grow k) in record {
      parts = λ k less.
          let from = gap.now + k * late_step gap in
          bound-more (gain from) offers i _ within _ _ (so_far.parts k less) (new.most k less);
      small = λ k less. within-more (λ (offer : Offer). offer.worth) offers i _ within _ _ (so_far.small k less) (new.small k less);
      limits = λ k less.
          bound-more (gain (limit k)) offers i _ within (get_or c.loop-offer.parts k 0) _
          (omega (arith, falls k, so_far.limits k less)) (new.limits k less);
      spread = λ k less. omega (arith, new.grow k, so_far.spread k less);
      end = none-more (gain (limit 32)) offers i _ within (omega (arith, falls 32, so_far.end)) new.end;
      start = omega (arith, new.first, so_far.start);
    }

pub returns : goal.returns
returns c =
    let disk = c.args.disk.now in
    let gap = c.args.gap.now in
    let es = c.args.wanted.now in
    let stop = c.stop_at-stop.result in
    let its : IsStop disk (on_track gap.target es) stop =
    subst (λ xs. IsStop disk xs stop) c.blocks_on-on_target.ensures.its c.stop_at-stop.ensures.stop in
    let so_far = c.loop-offer.invariant in
    let offers = stop.offers.now in
    let i = c.loop-offer.offer-index in
    let all : length offers ≤ i = c.loop-offer-test.false in
    let small = small-sum stop (λ (o : Offer). o.worth) i (λ o. omega arith) c.stop_at-stop.ensures.stop.ready in
    let done = λ (from : ℕ). all-of (late_gain stop.turning gap from) offers i all in
    let stays = λ (from : ℕ). gives disk (late_most gap from) es stop its in record {
      late = record {
        some = omega (arith, c.late_step-step.ensures);
        from_now = omega arith;
        each = λ k less.
            let from = gap.now + k * late_step gap in
            subst (λ step. stay disk (late_most gap (gap.now + k * step)) es ≤ get_or c.loop-offer.parts k 0) (sym c.late_step-step.ensures)
            (omega (arith, done from, stays from, so_far.parts k less));
        small = λ k less. omega (arith, so_far.small k less, small);
        start = so_far.start;
        limits = λ k less. let from = get_or c.loop-offer.limits k 0 in omega (arith, done from, stays from, so_far.limits k less);
        end = let from = get_or c.loop-offer.limits 32 0 in omega (arith, done from, stays from, so_far.end);
      };
    }
