use Rattle.fb_bgwrite.proofs.Words.{on_ok_weaker}
use Rattle.fb_bgwrite.proofs.Adding.{stay_added}
use Rattle.fb_bgwrite.proofs.spilling.Spilling.add_stay.Goals as goal

pub returns-clause-spilling : goal.returns-clause-spilling
returns-clause-spilling c =
    on_ok_weaker c.push.result (stay_added c.args.self.now c.args.row c.push.new.self c.requires.spilling) c.push.ensures.ok
