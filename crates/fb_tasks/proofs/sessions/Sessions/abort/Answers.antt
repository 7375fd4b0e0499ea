use Rattle.fb_tasks.proofs.Changes.{aborted-tells}
use Rattle.fb_tasks.proofs.sessions.Sessions.abort.Goals as goal

pub returns-clause-ok : goal.returns-clause-ok
returns-clause-ok c = λ disk past call is h. aborted-tells disk past call c.args.task c.args.first c.args.count c.args.self.now
    c.touch.new.self c.args.wanted.now c.abort.new.self is c.abort.ensures.states c.in_ok-touch.ensures.ok h
