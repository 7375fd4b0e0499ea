use Rattle.fb_detour.proofs.Words.{ap, arith, ◌∙◌, ◌≤◌, nat_tests, cylinders_of}
use Rattle.fb_detour.proofs.Bare.{at_once}
use Rattle.fb_detour.proofs.indexed.wants_nothing.Goals as goal

pub returns : goal.returns
returns c = λ none gap is.
    let most = c.greatest_weight_in.result in
    let nothing : most ≤ 0 = grind (arith, nat_tests) in
    let count = c.cylinders.ensures.value ∙ ap (λ map. cylinders_of map.zones) c.geometry.ensures in
    at_once c.args.disk.now gap c.args.wanted.now is (λ track on.
    let weight = c.greatest_weight_in.ensures.each track (omega arith) (omega (arith, on.cylinder, count)) in
    omega (arith, weight, nothing))
