use Rattle.fb_tasks.proofs.Words.{◌≡◌, ◌++◌, map, range_with_len, Shape, Past, task_row, Tells}
use Rattle.fb_tasks.proofs.sessions.Sessions.task_rows.Given as goal

abbrev pub invariant-loop-task : goal.invariant-loop-task
invariant-loop-task l = (disk : Shape) (past : Past) → Tells disk past l.self l.wanted
    → l.rows ≡ l.initial.rows ++ map (task_row past) (range_with_len 0 l.task)
