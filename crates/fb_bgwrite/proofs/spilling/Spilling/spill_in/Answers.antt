use Rattle.fb_bgwrite.proofs.Words.{on_ok_weaker}
use Rattle.fb_bgwrite.proofs.Admitting.{are_pending, chosen_none, chosen_some, puts_kept}
use Rattle.fb_bgwrite.proofs.spilling.Spilling.spill_in.Goals as goal

pub best_spill-requires-clause-blocks : goal.best_spill-requires-clause-blocks
best_spill-requires-clause-blocks c =
    let admit = c.in_ok-admit.ensures in
    are_pending c.admit.new.self admit.spilling (puts_kept c.args.self.now c.admit.new.self admit.kept c.requires.puts)

pub returns-in-Some-clause-chosen : goal.returns-in-Some-clause-chosen
returns-in-Some-clause-chosen c =
    let admit = c.in_ok-admit.ensures in
    on_ok_weaker c.write.result (chosen_some c.args.self.now c.admit.new.self c.args.row.now admit.spilling c.requires.puts admit.kept
    admit.items admit.instant admit.all c.in-Some.best.spill c.write.new.self.items c.in-Some.ensures.best) c.write.ensures.items

pub returns-in-None-clause-chosen : goal.returns-in-None-clause-chosen
returns-in-None-clause-chosen c =
    let admit = c.in_ok-admit.ensures in
    chosen_none c.args.self.now c.admit.new.self c.args.row.now admit.spilling c.requires.puts admit.kept admit.items admit.instant
    admit.all c.in-None.ensures.best
