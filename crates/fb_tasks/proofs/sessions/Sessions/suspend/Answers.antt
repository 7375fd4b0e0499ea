use Rattle.fb_tasks.proofs.Words.{length, ap, arith}
use Rattle.fb_tasks.proofs.{Changes.suspended-tells}
use Rattle.fb_tasks.proofs.sessions.Sessions.suspend.Goals as goal

pub returns : goal.returns
returns c = λ disk past call is h.
    suspended-tells disk past call c.self.inside.sessions.items c.args.self.now c.args.task c.index_mut.result.now c.args.wanted.now
    c.suspend.new.self is c.self.view_is c.requires c.index_mut.ensures.value c.suspend.ensures h

pub index_mut-requires : goal.index_mut-requires
index_mut-requires c = omega (arith, c.requires, ap length c.self.view_is, c.self.inside.sessions.ok.0)
