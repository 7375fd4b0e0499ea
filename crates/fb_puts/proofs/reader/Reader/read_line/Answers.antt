use Rattle.fb_puts.proofs.Words.{progress}
use Rattle.fb_puts.specs.Reader.{terms_of}
use Rattle.fb_puts.proofs.LinesRead.{line_apart}
use Rattle.fb_puts.proofs.reader.Reader.read_line.Goals as goal

pub returns-in_ok-add-in-Ok-clause-apart : goal.returns-in_ok-add-in-Ok-clause-apart
returns-in_ok-add-in-Ok-clause-apart c =
    line_apart (terms_of c.args.terms.now) c.args.number (progress c.args.self.now) (progress c.add.new.self) c.args.line.now c.in-Ok.step
    c.in_ok-add-in-Ok.ensures.step c.in-Ok.ensures.apart

pub returns-in_ok-add-in-Ok-clause-sound : goal.returns-in_ok-add-in-Ok-clause-sound
returns-in_ok-add-in-Ok-clause-sound c =
    c.in_ok-add-in-Ok.ensures.sound (terms_of c.args.terms.now) c.requires.reader c.in-Ok.ensures.next
