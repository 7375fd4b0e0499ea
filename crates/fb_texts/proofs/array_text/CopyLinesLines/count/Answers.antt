use Rattle.std.proofs.Common.{arith}
use Rattle.fb_texts.proofs.array_text.CopyLinesLines.count.Goals as goal

pub returns-clause-ends : goal.returns-clause-ends
returns-clause-ends c = omega (arith, c.copy_pieces.ensures 0)
