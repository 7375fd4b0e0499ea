use Rattle.fb_detour.proofs.Words.{arith, get_or, ◌+◌, ◌-◌}
use Rattle.fb_detour.proofs.InTime.{more_in_time}
use Rattle.fb_detour.proofs.steps.worth_by_step.Goals as goal

pub returns-clause-most : goal.returns-clause-most
returns-clause-most c = λ caught time light passes before.
    let left = get_or c.args.late.now.limits (c.args.k + 1) 0 - 1 - c.args.reach.at_target in
    let longer = more_in_time c.args.reach.rate time left (omega (arith, before)) in
    omega (arith, c.caught_in.ensures.most caught light (omega (arith, passes, longer)))
