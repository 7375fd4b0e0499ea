use Rattle.fb_detour.proofs.Words.{ap, arith, ◌+◌, ◌∙◌, sum_of_first}
use Rattle.fb_detour.proofs.InInterval.{gain-interval}
use Rattle.fb_detour.proofs.parts.add_offer.Goals as goal

pub returns : goal.returns
returns c = λ k less.
    let intervals = c.args.intervals.now in
    let past = c.saturating_sub in
    c.add_at.ensures (k + 1) (omega (arith, less))
    ∙ ap (λ gain. sum_of_first (k + 1) intervals + gain)
    (gain-interval c.args.stop.now.turning past.result c.args.step k c.args.offer (omega (arith, past.ensures, c.end.ensures.value))
    c.requires.some)
