use Rattle.fb_wanted.proofs.greatest.update_greatest.Goals as goal

pub set-requires-then-was-weight-clause-small : goal.set-requires-then-was-weight-clause-small
set-requires-then-was-weight-clause-small c = c.greatest_on.ensures.least 32768000000000 (λ t its. c.requires.small t)
