use Rattle.fb_tasks.proofs.Words.{◌++◌, ap, ◌∙◌, arith, task_rows}
use Rattle.test_tasks.proofs.Script.{rows-there}
use Rattle.test_tasks.proofs.played.PlayedScript.end.Goals as goal

pub complete-complete-requires-clause-opened : goal.complete-complete-requires-clause-opened
complete-complete-requires-clause-opened g c =
    let past = c.requires.past in
    let all = rows-there c.requires.tells c.task_rows-2.new.rows (c.in_ok-task_rows-2.ensures.ok c.args.self.now.map past c.requires.tells
    ∙ ap (λ rows. rows ++ task_rows past) c.new-rows.ensures) in
    omega (arith, all, c.loop-i-test.true, c.len-i-end.ensures.value, c.in_ok-task.ensures.1)
