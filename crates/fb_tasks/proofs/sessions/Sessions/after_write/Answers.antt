use Rattle.fb_tasks.proofs.Written.{left-tells, nearby-told}
use Rattle.fb_tasks.proofs.sessions.Sessions.after_write.Goals as goal

pub rewant_near-requires : goal.rewant_near-requires
rewant_near-requires c = nearby-told c.requires.2

pub returns : goal.returns
returns c = λ disk past request write first count h.
    left-tells disk past request write c.args.self.now c.args.wanted.now h c.args.first c.args.count c.rewant_near.new.wanted first count
    c.rewant_near.ensures
