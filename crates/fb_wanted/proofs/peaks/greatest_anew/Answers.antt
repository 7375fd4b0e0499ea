use Rattle.std.proofs.Common.{arith}
use Rattle.fb_wanted.proofs.peaks.greatest_anew.Goals as goal

pub returns-clause-least : goal.returns-clause-least
returns-clause-least c = λ most now greatest all. c.greatest_of.ensures.least most (λ i from lt. all i (omega (arith, from, lt)))
