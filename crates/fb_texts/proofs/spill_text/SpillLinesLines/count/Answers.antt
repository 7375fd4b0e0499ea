use Rattle.std.proofs.Common.{arith}
use Rattle.fb_texts.proofs.spill_text.SpillLinesLines.count.Goals as goal

pub returns-clause-ends : goal.returns-clause-ends
returns-clause-ends c = omega (arith, c.spill_pieces.ensures.value)
