use Rattle.fb_bgwrite.proofs.Words.{◌*◌, ◌+◌, ◌≤◌, arith, ap, sum_by, wanted_of, Spill, value}
use Rattle.fb_bgwrite.proofs.{Choices.by_weight, Choices.enough_beats, Choices.nothing_beaten, Lengths.too_long_on}
use Rattle.fb_bgwrite.proofs.search.try_track.Goals as goal

pub returns-then-is_enough-clause-tried : goal.returns-then-is_enough-clause-tried
returns-then-is_enough-clause-tried c = λ leave is.
    let disk = c.args.search.now.disk.now in
    let gap = c.args.search.now.gap.now in
    let entries = c.args.search.now.pending.now in
    let spill : Spill = record { track = c.args.track; leave = leave } in
    let weight = ap (λ xs. sum_by (λ b. b.weight * b.count) (wanted_of xs)) c.on-blocks.ensures.its in
    let few : value disk gap (wanted_of entries) spill ≤ c.min.result =
    omega (
      arith,
      c.requires.most leave is,
      by_weight disk gap entries c.requires.search.blocks c.args.track leave,
      c.wanted_weight.ensures.sum,
      weight,
      c.min.ensures,
    ) in
    enough_beats disk gap (wanted_of entries) c.args.best c.min.result c.args.track.cylinder spill
    (c.is_enough.ensures c.if-is_enough.true) few (omega arith)

pub returns-then-are_longer-clause-tried : goal.returns-then-are_longer-clause-tried
returns-then-are_longer-clause-tried c = λ leave is.
    let disk = c.args.search.now.disk.now in
    let gap = c.args.search.now.gap.now in
    let entries = c.args.search.now.pending.now in
    let spill : Spill = record { track = c.args.track; leave = leave } in
    nothing_beaten disk gap (wanted_of entries) c.args.best spill c.requires.best
    (too_long_on disk gap entries spill c.requires.search.blocks.light (c.args.most + 1) c.on-blocks.result c.args.most
    c.on-blocks.ensures.its (λ i e at wanted. omega (arith, c.are_longer.ensures c.if-are_longer.true i e at wanted))
    (c.requires.most leave is) (omega arith))

pub spill_on-found-requires-clause-on_disk : goal.spill_on-found-requires-clause-on_disk
spill_on-found-requires-clause-on_disk c = c.on-blocks.ensures.on_disk c.args.search.now.disk.now c.requires.search.blocks.on_disk
