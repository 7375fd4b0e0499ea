use Rattle.fb_report.proofs.Words.{arith}
use Rattle.fb_report.proofs.Lines.{length_lines, fore_are}
use Rattle.fb_report.proofs.fore.fore_pieces.Goals as goal

pub returns-clause-lines : goal.returns-clause-lines
returns-clause-lines c = λ size bytes. omega (arith, length_lines _ _ _ _ _ (fore_are size bytes c.args.run.now))
