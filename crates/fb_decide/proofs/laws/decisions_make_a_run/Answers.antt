use Rattle.fb_decide.proofs.FullRuns.{rows_go_on, fore_rows_begin, fore_rows_end, rows_are_full}
use Rattle.fb_decide.proofs.laws.decisions_make_a_run.Goals as goal

pub returns : goal.returns
returns c = record { go_on = rows_go_on; begin = fore_rows_begin; end = fore_rows_end; full = rows_are_full }
