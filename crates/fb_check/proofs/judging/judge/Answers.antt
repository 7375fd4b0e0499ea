use Rattle.fb_check.proofs.judging.judge.Goals as goal

pub returns : goal.returns
returns g c = c.judge_printed.ensures
