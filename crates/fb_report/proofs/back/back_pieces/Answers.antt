use Rattle.fb_report.proofs.Words.{arith}
use Rattle.fb_report.proofs.Lines.{length_lines, back_are}
use Rattle.fb_report.proofs.back.back_pieces.Goals as goal

pub returns-clause-lines : goal.returns-clause-lines
returns-clause-lines c = λ names size bytes. omega (arith, length_lines _ _ _ _ _ (back_are names size bytes c.args.run.now))
