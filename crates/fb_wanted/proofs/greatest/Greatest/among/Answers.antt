use Rattle.std.proofs.Common.{ap, arith, get_or}
use Rattle.fb_wanted.proofs.greatest.Greatest.among.Goals as goal

pub returns-then-end-from-lt-BAND-clause-small : goal.returns-then-end-from-lt-BAND-clause-small
returns-then-end-from-lt-BAND-clause-small c = c.greatest_of.ensures.least 32768000000000
    (λ i from lt. omega (arith, ap (λ xs. get_or xs i 0) c.deref.ensures.value, c.self.invariant.1 i))

pub returns-clause-small : goal.returns-clause-small
returns-clause-small c = c.among.ensures.least 32768000000000
    (λ band from lt. c.self.invariant.0.least band 32768000000000 (λ i its. c.self.invariant.1 i))
