use Rattle.fb_decide.proofs.Words.{on_ok_weaker, history}
use Rattle.fb_decide.proofs.Looping.{ended_fits, made_without}
use Rattle.fb_decide.proofs.deciding.Decider.add_task_rows.Goals as goal

pub task_rows-requires : goal.task_rows-requires
task_rows-requires g c = (c.requires.0.disk.map, history c.requires.0 c.requires.1, c.requires.2.come_to.run.tells)

pub returns-clause-rows : goal.returns-clause-rows
returns-clause-rows g c = on_ok_weaker c.task_rows.result
    (λ rows inputs steps made. rows inputs.disk.map (history inputs steps) made.come_to.run.tells) c.task_rows.ensures.ok

pub returns-clause-fits : goal.returns-clause-fits
returns-clause-fits g c = λ inputs steps made. ended_fits inputs steps _ made

pub returns-clause-made : goal.returns-clause-made
returns-clause-made g c = λ inputs steps made. made_without inputs _ steps _ _ _ made
