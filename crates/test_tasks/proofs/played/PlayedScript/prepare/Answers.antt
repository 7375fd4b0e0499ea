use Rattle.fb_tasks.proofs.Words.{on_ok_weaker}
use Rattle.fb_tasks.proofs.Leaving.{on_ok_both}
use Rattle.test_tasks.proofs.Script.{follows-may-choose, follows-up_to_date}
use Rattle.test_tasks.proofs.played.PlayedScript.prepare.Goals as goal

pub returns : goal.returns
returns c =
    let h = c.in_ok-call.ensures in
    let may = follows-may-choose h in
    on_ok_weaker c.settle.result
    (λ all. follows-up_to_date h c.args.now c.settle.new.self c.settle.new.wanted (all.0 h.past may) (all.1 h.past may))
    (on_ok_both _ _ c.settle.result c.settle.ensures.tells c.settle.ensures.up_to_date)
