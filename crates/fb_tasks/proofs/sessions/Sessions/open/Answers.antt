use Rattle.fb_tasks.proofs.Words.{◌<◌, length, sym, subst, AreListed}
use Rattle.fb_tasks.proofs.{Listed.listed_push, Additions.opened-tells}
use Rattle.fb_tasks.proofs.sessions.Sessions.open.Goals as goal

pub returns-clause-ok : goal.returns-clause-ok
returns-clause-ok c = λ disk past call held is h.
    opened-tells disk past call c.args.kind c.args.weight
    c.args.block c.self.inside.sessions.items c.args.self.now c.push.new.self.items c.new-session.result held is c.self.view_is
    c.in_ok-push.ensures.items
    (record {
      terms = c.new-session.ensures.terms;
      state = c.new-session.ensures.state;
      image = c.new-session.ensures.image;
      log = c.new-session.ensures.log;
    }) h

pub invariant_of-self-2 : goal.invariant_of-self-2
invariant_of-self-2 c =
    subst (λ xs. AreListed xs c.self.inside.listed_touched c.self.inside.near)
    (sym c.in_ok-push.ensures.items)
    (listed_push c.self.invariant c.new-session.result c.new-session.ensures.touched c.new-session.ensures.chunks
    (subst (λ xs. length xs < 4294967295) (sym c.self.view_is) c.requires))
