use Rattle.fb_tasks.proofs.Words.{ap, refl, on_ok_weaker, on_err_weaker, on_err, blocks_by}
use Rattle.fb_tasks.proofs.{Leaving.begun_not, Leaving.begun_same, Changes.promoted-tells}
use Rattle.fb_tasks.proofs.Rules.{takes_none}
use Rattle.fb_tasks.proofs.sessions.Sessions.apply.Goals as goal

pub add_segment-requires-clause-call : goal.add_segment-requires-clause-call
add_segment-requires-clause-call c =
    (c.requires.0, c.args.call.now, c.args.wanted.now, record { task = refl; action = c.in-Segment.is }, c.requires.1)

pub returns-in-Open-clause-ok : goal.returns-in-Open-clause-ok
returns-in-Open-clause-ok c = on_ok_weaker c.open.result (λ says past h. takes_none c.args.map.now
    past c.args.call.now c.open.new.self c.args.wanted.now (ap (blocks_by c.args.map.now past c.args.call.now.task) c.in-Open.is)
    (says c.args.map.now past c.args.call.now c.args.wanted.now c.in-Open.is h)) c.open.ensures.ok

pub returns-in-Abort : goal.returns-in-Abort
returns-in-Abort c = record {
  ok = on_ok_weaker c.abort.result (λ says past h. takes_none c.args.map.now past c.args.call.now c.abort.new.self c.abort.new.wanted
      (ap (blocks_by c.args.map.now past c.args.call.now.task) c.in-Abort.is)
      (says c.args.map.now past c.args.call.now (record { task = refl; action = c.in-Abort.is }) h)) c.abort.ensures.ok;
  err_sessions = on_err_weaker c.abort.result (λ same. same.0) c.abort.ensures.err;
  err_blocks = on_err_weaker c.abort.result (λ same past may. begun_same same.1) c.abort.ensures.err;
}

pub returns-in-Promote-clause-ok : goal.returns-in-Promote-clause-ok
returns-in-Promote-clause-ok c = λ past h. takes_none c.args.map.now past c.args.call.now c.args.self.now c.args.wanted.now
    (ap (blocks_by c.args.map.now past c.args.call.now.task) c.in-Promote.is)
    (promoted-tells c.args.map.now past c.args.call.now c.in-Promote.first c.in-Promote.count c.args.self.now c.args.wanted.now
    c.in-Promote.is h.tells)

pub returns-in-Suspend-clause-ok : goal.returns-in-Suspend-clause-ok
returns-in-Suspend-clause-ok c = λ past h. takes_none c.args.map.now past c.args.call.now c.suspend.new.self c.suspend.new.wanted
    (ap (blocks_by c.args.map.now past c.args.call.now.task) c.in-Suspend.is)
    (c.suspend.ensures c.args.map.now past c.args.call.now (record { task = refl; action = c.in-Suspend.is }) h.tells)

pub returns-in-Resume-clause-ok : goal.returns-in-Resume-clause-ok
returns-in-Resume-clause-ok c = λ past h. takes_none c.args.map.now past c.args.call.now c.resume.new.self c.resume.new.wanted
    (ap (blocks_by c.args.map.now past c.args.call.now.task) c.in-Resume.is)
    (c.resume.ensures c.args.map.now past c.args.call.now (record { task = refl; action = c.in-Resume.is }) h.tells)

pub returns-in-Close : goal.returns-in-Close
returns-in-Close c = record {
  ok = on_ok_weaker c.close.result (λ says past h. takes_none c.args.map.now past c.args.call.now c.close.new.self c.close.new.wanted
      (ap (blocks_by c.args.map.now past c.args.call.now.task) c.in-Close.is)
      (says past c.args.call.now (record { task = refl; action = c.in-Close.is }) h.tells)) c.close.ensures.ok;
  err_sessions = on_err_weaker c.close.result (λ same. same.0) c.close.ensures.err;
  err_blocks = on_err_weaker c.close.result (λ same past may. begun_same same.1) c.close.ensures.err;
}

pub returns-in-Segment-clause-ok : goal.returns-in-Segment-clause-ok
returns-in-Segment-clause-ok c = on_ok_weaker c.add_segment.result (λ says past h. takes_none c.args.map.now past c.args.call.now
    c.add_segment.new.self c.args.wanted.now (ap (blocks_by c.args.map.now past c.args.call.now.task) c.in-Segment.is)
    (says past c.args.call.now c.args.wanted.now (record { task = refl; action = c.in-Segment.is }) h))
    c.add_segment.ensures.ok

pub want-requires-clause-call : goal.want-requires-clause-call
want-requires-clause-call c = (c.requires.0, c.args.call.now, record { task = refl; action = c.in-Want.is }, c.requires.1)

pub returns-in-Open-clause-err_blocks : goal.returns-in-Open-clause-err_blocks
returns-in-Open-clause-err_blocks c = on_err c.open.result (λ past may. begun_not)

pub returns-in-Segment-clause-err_blocks : goal.returns-in-Segment-clause-err_blocks
returns-in-Segment-clause-err_blocks c = on_err c.add_segment.result (λ past may. begun_not)
