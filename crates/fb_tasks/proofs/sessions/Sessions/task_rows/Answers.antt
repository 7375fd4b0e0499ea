use Rattle.fb_tasks.proofs.Words.{◌≡◌, ◌<◌, ◌≤◌, ◌++◌, Some, length, map, slice_get, ap, sym, ◌∙◌, arith, range_with_len}
use Rattle.fb_tasks.proofs.Words.{slice_get-get_or, task_row, task_rows, tasks, on_err}
use Rattle.fb_tasks.proofs.{Leaving.begun_counted, Complete.map_more, Complete.row_same}
use Rattle.fb_tasks.proofs.sessions.Sessions.task_rows.Goals as goal

pub loop-task-preserved : goal.loop-task-preserved
loop-task-preserved c = λ disk past h.
    let session = c.index-session.result.now in
    let within : c.loop-task.task < length c.self.inside.sessions.items =
    omega (arith, c.loop-task-test.true, c.len-task-end.ensures, c.self.inside.sessions.ok.0) in
    let there = ap (λ xs. slice_get xs c.loop-task.task) (sym c.self.view_is)
    ∙ (slice_get-get_or c.self.inside.sessions.items c.loop-task.task session within ∙ ap Some (sym c.index-session.ensures)) in
    let told = h.each c.loop-task.task session there in
    map_more (task_row past) c.args.rows.now c.loop-task.rows c.push.new.self c.loop-task.task _ (c.loop-task.invariant disk past h)
    (row_same past c.loop-task.task session c.args.wanted.now c.counts-counts.result c.is_complete.result told.stands told.at_work h.entries
    c.counts-counts.ensures c.is_complete.ensures)
    c.in_ok-push.ensures.ok

pub returns-clause-ok : goal.returns-clause-ok
unfolding task_rows
returns-clause-ok c = λ disk past h.
    let all : c.loop-task.task ≡ length c.self.inside.sessions.items =
    omega (arith, c.loop-task-test.false, c.loop-task.auto.task-end, c.len-task-end.ensures, c.self.inside.sessions.ok.0) in
    c.loop-task.invariant disk past h
    ∙ ap (λ n. c.args.rows.now ++ map (task_row past) (range_with_len 0 n)) (all ∙ (ap length c.self.view_is ∙ h.as_many))

pub returns-in_err-push-clause-err : goal.returns-in_err-push-clause-err
unfolding task_rows
returns-in_err-push-clause-err c = on_err c.from_residual.result (λ disk past h.
    let there : c.loop-task.task ≤ length (tasks past) =
    omega (arith, c.loop-task-test.true, c.len-task-end.ensures, c.self.inside.sessions.ok.0, ap length c.self.view_is, h.as_many) in
    begun_counted (task_row past) c.loop-task.task (length (tasks past)) there
    (c.in_err-push.ensures.err ∙ c.loop-task.invariant disk past h))
