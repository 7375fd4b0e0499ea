use Rattle.fb_bgwrite.proofs.Words.{◌+◌, arith}
use Rattle.fb_bgwrite.proofs.{Choices.range_more, Lengths.range_beaten}
use Rattle.fb_bgwrite.proofs.search.try_first.Goals as goal

pub returns-then-from-part-clause-tried : goal.returns-then-from-part-clause-tried
returns-then-from-part-clause-tried c =
    let short = c.first_short-from in
    range_beaten c.args.search.now c.requires.search c.args.best c.requires.best c.args.part c.requires.part (c.min-short.result + 1)
    c.args.part.from short.result (omega arith) short.ensures.within (omega (arith, c.min-short.ensures)) short.ensures.each

pub returns-then-is_light-clause-tried : goal.returns-then-is_light-clause-tried
returns-then-is_light-clause-tried c =
    let search = c.args.search.now in
    let short = c.first_short-from in
    let before = range_beaten search c.requires.search c.args.best c.requires.best c.args.part c.requires.part (c.min-short.result + 1)
    c.args.part.from short.result (omega arith) short.ensures.within (omega (arith, c.min-short.ensures)) short.ensures.each in
    range_more search.disk.now search.gap.now _ c.args.best c.args.part.from short.result (short.result + 1) before
    (c.is_light.ensures c.if-is_light.true)

pub returns-clause-tried : goal.returns-clause-tried
returns-clause-tried c =
    let search = c.args.search.now in
    let short = c.first_short-from in
    let best = c.try_cylinder in
    let before = range_beaten search c.requires.search best.result best.ensures.valued c.args.part c.requires.part
    (c.min-short.result + 1) c.args.part.from short.result (omega arith) short.ensures.within (omega (arith, c.min-short.ensures))
    short.ensures.each in
    range_more search.disk.now search.gap.now _ best.result c.args.part.from short.result (short.result + 1) before best.ensures.tried
