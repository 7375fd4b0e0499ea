use Rattle.std.proofs.Common.{◌<◌, ◌≤◌, arith}
use Rattle.std.proofs.lemmas.Bool.Decides.{nat_tests}
use Rattle.fb_service.proofs.Approaching.{waits_ahead, waits_over}
use Rattle.fb_service.proofs.approach.wait_from.Goals as goal

pub returns-then-here-angle-clause-value : goal.returns-then-here-angle-clause-value
returns-then-here-angle-clause-value c = λ now e.
    let ahead : c.args.here ≤ c.args.angle = grind (arith, nat_tests) in
    waits_ahead c.args.rotation c.args.angle c.args.here now c.requires.angle ahead e

pub returns-else-here-angle-clause-value : goal.returns-else-here-angle-clause-value
returns-else-here-angle-clause-value c = λ now e.
    let over : c.args.angle < c.args.here = grind (arith, nat_tests) in
    waits_over c.args.rotation c.args.angle c.args.here now c.requires.angle c.requires.here over e
