use Rattle.fb_top.proofs.Words.{Option, ap, refl, sym, subst, option_map, err_from_is_err_and, SpillRun, replay_terms, files_of}
use Rattle.fb_top.proofs.Words.{then_result, replay_asks, failed_output, WritesTexts, replay_texts}
use Rattle.fb_top.proofs.Spills.{reports_stopped, then_spill}
use Rattle.fb_top.proofs.replay.write_replay.Goals as goal

pub returns-in_err-write_reports-clause-texts : goal.returns-in_err-write_reports-clause-texts
returns-in_err-write_reports-clause-texts g c =
    let failed = err_from_is_err_and c.from_residual.result c.from_residual.ensures.1 in
    rw (failed.1, failed.2) (reports_stopped (replay_terms c.args.words.now) (files_of c.args.files.now) c.args.run.now
    (option_map (λ s. s.now) c.args.spill) _ _ c.in_err-write_reports.field-0.0 c.in_err-write_reports.ensures.texts)

pub returns-in-Some-clause-texts : goal.returns-in-Some-clause-texts
returns-in-Some-clause-texts g c =
    let old = g.D.Desk.seen c.args.desk.now in
    let new = g.D.Desk.seen c.write_given.new.desk in
    let terms = replay_terms c.args.words.now in
    let files = files_of c.args.files.now in
    let run = c.args.run.now in
    subst (λ (given : Option SpillRun). WritesTexts (replay_texts terms files run given) old new c.write_given.result)
    (sym (ap (option_map (λ s. s.now)) c.in-Some.is))
    (then_spill terms files run c.in-Some.spill.now new c.write_given.result c.in_ok-write_reports.ensures.texts
    c.write_given.ensures.texts)

pub returns-in-Some-clause-calls : goal.returns-in-Some-clause-calls
returns-in-Some-clause-calls g c =
    then_result failed_output c.write_given.result _ c.in_ok-write_reports.ensures.calls
    (c.write_given.ensures.calls (replay_asks (replay_terms c.args.words.now)) refl)
