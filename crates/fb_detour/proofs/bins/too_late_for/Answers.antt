use Rattle.fb_detour.proofs.Words.{arith, ◌+◌, ◌≤◌, nat_tests, end_of}
use Rattle.fb_detour.proofs.bins.too_late_for.Goals as goal

pub returns-in-Some : goal.returns-in-Some
returns-in-Some c = λ leave after noted by.
    let leaves = c.args.leaves.now in
    let from = leave + leaves.move_on in
    let end : end_of c.args.target.now.rotation c.args.sweep from ≤ c.args.search.now.gap.now.deadline = grind (arith, nat_tests) in
    c.too_late_by.ensures leave after noted (c.in-Some.ensures.some from (omega (arith, after, c.requires.leaves.after)) end)
