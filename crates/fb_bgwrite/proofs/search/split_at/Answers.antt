use Rattle.fb_bgwrite.proofs.Words.{◌+◌, ◌-◌, ◌/◌, arith, refl}
use Rattle.fb_bgwrite.proofs.Dividing.{at_high, at_low, in_the_middle}
use Rattle.fb_bgwrite.proofs.search.split_at.Goals as goal

pub returns-then-low-part-clause-low : goal.returns-then-low-part-clause-low
returns-then-low-part-clause-low c =
    (at_low c.args.gap.now c.args.part.from c.args.part.end c.min-low.result c.if-part-low.true c.if-low-part.true c.min-low.ensures).0

pub returns-then-low-part-clause-high : goal.returns-then-low-part-clause-high
returns-then-low-part-clause-high c =
    (at_low c.args.gap.now c.args.part.from c.args.part.end c.min-low.result c.if-part-low.true c.if-low-part.true c.min-low.ensures).1

pub returns-then-high-part-clause-low : goal.returns-then-high-part-clause-low
returns-then-high-part-clause-low c =
    (at_high c.args.gap.now c.args.part.from c.args.part.end (c.max-high.result + 1) (omega (arith, c.if-part-high.true))
    (omega (arith, c.if-high-part.true)) (omega (arith, c.max-high.ensures))).0

pub returns-then-high-part-clause-high : goal.returns-then-high-part-clause-high
returns-then-high-part-clause-high c =
    (at_high c.args.gap.now c.args.part.from c.args.part.end (c.max-high.result + 1) (omega (arith, c.if-part-high.true))
    (omega (arith, c.if-high-part.true)) (omega (arith, c.max-high.ensures))).1

pub returns-else-part-high-clause-low : goal.returns-else-part-high-clause-low
returns-else-part-high-clause-low c =
    let part = c.args.part in
    (in_the_middle c.args.gap.now part.from part.end (part.from + (part.end - part.from) / 2) c.requires refl).0

pub returns-else-part-high-clause-high : goal.returns-else-part-high-clause-high
returns-else-part-high-clause-high c =
    let part = c.args.part in
    (in_the_middle c.args.gap.now part.from part.end (part.from + (part.end - part.from) / 2) c.requires refl).1
