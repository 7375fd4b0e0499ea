use Rattle.fb_puts.proofs.Words.{subst, sym, HasTaken, IsKnown}
use Rattle.fb_puts.proofs.Appending.{taken_push}
use Rattle.fb_puts.proofs.taken.Taken.add.Goals as goal

pub returns-in_ok-insert-in-Known-clause-taken : goal.returns-in_ok-insert-in-Known-clause-taken
returns-in_ok-insert-in-Known-clause-taken c = λ ranges taken off.
    taken_push c.in-Known.ends c.insert.new.self ranges c.args.range (subst (λ t. HasTaken t ranges) c.in-Known.is taken)
    (off (subst IsKnown (sym c.in-Known.is) tt))
    c.requires.some c.in_ok-insert-in-Known.ensures.updates.0
