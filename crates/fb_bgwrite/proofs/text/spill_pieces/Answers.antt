use Rattle.fb_bgwrite.proofs.Words.{arith, length_lines}
use Rattle.fb_bgwrite.proofs.TextLines.{lines_are}
use Rattle.fb_bgwrite.proofs.text.spill_pieces.Goals as goal

pub returns-clause-lines : goal.returns-clause-lines
returns-clause-lines c = λ size bytes. omega (arith, length_lines _ _ _ _ _ (lines_are size bytes c.args.spill.now), c.len.ensures.value)
