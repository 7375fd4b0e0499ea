use Rattle.fb_bgwrite.proofs.Words.{◌≤◌, arith, wanted_of, Spill, value}
use Rattle.fb_bgwrite.proofs.Choices.{by_weight, enough_beats}
use Rattle.fb_bgwrite.proofs.search.is_light.Goals as goal

pub returns : goal.returns
returns c = λ yes track low high leave is.
    let disk = c.args.search.now.disk.now in
    let gap = c.args.search.now.gap.now in
    let entries = c.args.search.now.pending.now in
    let spill : Spill = record { track = track; leave = leave } in
    let weight = c.greatest_weight_in-weight in
    let few : value disk gap (wanted_of entries) spill ≤ weight.result =
    omega (arith, by_weight disk gap entries c.requires.search.blocks track leave, weight.ensures.each track low high) in
    enough_beats disk gap (wanted_of entries) c.args.best weight.result c.args.cylinder spill (c.is_enough.ensures yes) few low
