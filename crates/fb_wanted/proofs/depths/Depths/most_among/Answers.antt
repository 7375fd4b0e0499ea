use Rattle.fb_wanted.proofs.Words.{ap, arith, get_or, no_depth}
use Rattle.fb_wanted.proofs.depths.Depths.most_among.Goals as goal

pub returns-clause-least : goal.returns-clause-least
returns-clause-least c = λ most all. c.among.ensures.least most (λ k from lt.
    omega (arith, c.self.invariant.bound k, ap (λ ds. (get_or ds k no_depth).most) c.self.view_is, all k from lt))
