use Rattle.fb_detour.proofs.Words.{arith, get_or, length, refl, ◌+◌, ◌-◌, ◌/◌, ◌<◌, ◌≤◌}
use Rattle.fb_detour.proofs.Limits.{raised-behind, steps_below}
use Rattle.fb_detour.proofs.parts.add_limit.Goals as goal

pub returns-clause-behind : goal.returns-clause-behind
returns-clause-behind c = λ k less before.
    let limits = c.args.limits.now in
    let last = c.args.last in
    let begin = c.args.begin in
    let step = c.args.step in
    let part = (last - begin) / step in
    let below = steps_below (last - begin) step 32 (omega (arith, c.requires.inside, c.requires.order)) in
    let inside : part + 1 < length limits = omega (arith, below, c.told-limits) in
    let more : get_or limits (part + 1) 0 ≤ c.max-limit.result = omega (arith, c.max-limit.ensures) in
    raised-behind limits (part + 1) c.max-limit.result inside more last begin step k c.requires.order c.requires.some refl
    (omega (arith, c.max-limit.ensures)) (c.requires.spread k less) before
