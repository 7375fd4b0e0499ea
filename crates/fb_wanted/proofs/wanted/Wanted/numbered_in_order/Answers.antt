use Rattle.fb_wanted.proofs.Words.{subst, AreInOrder, blocks_of}
use Rattle.fb_wanted.proofs.wanted.Wanted.numbered_in_order.Goals as goal

pub returns : goal.returns
returns c = subst (λ es. AreInOrder (blocks_of es)) c.self.view_is c.self.invariant.0.in_order
