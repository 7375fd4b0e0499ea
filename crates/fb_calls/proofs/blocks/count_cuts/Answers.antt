use Rattle.std.proofs.Common.{arith}
use Rattle.fb_calls.proofs.Cuttings.{at_least}
use Rattle.fb_calls.proofs.blocks.count_cuts.Goals as goal

pub returns-then-count-block : goal.returns-then-count-block
returns-then-count-block c =
    omega (arith, c.if-count-block.true, at_least c.args.map.now c.args.block c.requires.block c.args.first c.args.count)
