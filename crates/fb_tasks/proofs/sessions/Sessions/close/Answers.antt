use Rattle.fb_tasks.proofs.Words.{length, ap, arith}
use Rattle.fb_tasks.proofs.{Changes.closed-tells, Frames.touched_length, Frames.touched-now, Frames.touched-tells}
use Rattle.fb_tasks.proofs.sessions.Sessions.close.Goals as goal

pub returns-clause-ok : goal.returns-clause-ok
returns-clause-ok c = λ past call is h.
    let flagged = c.in_ok-touch.ensures.ok in
    let session = c.index_mut-closing.result.now in
    closed-tells c.args.map.now past call c.self.inside.sessions.items c.touch.new.self c.args.task c.count.result
    session c.drop_rest.new.self c.args.wanted.now c.abort.new.self
    is c.self.view_is (omega (arith, c.requires, touched_length c.args.self.now c.requires flagged)) c.index_mut-closing.ensures.value
    (touched-now c.args.self.now c.requires flagged session (rw c.self.view_is at c.index_mut-closing.ensures.value))
    c.count.ensures.value c.abort.ensures.states c.drop_rest.ensures (touched-tells c.args.self.now c.requires flagged h)

pub index_mut-closing-requires : goal.index_mut-closing-requires
index_mut-closing-requires c = omega (
  arith,
  c.requires,
  touched_length c.args.self.now c.requires c.in_ok-touch.ensures.ok,
  ap length c.self.view_is,
  c.self.inside.sessions.ok.0,
)
