use Rattle.std.proofs.Common.{◌∙◌}
use Rattle.fb_check.proofs.Judged.{some_same, last_wrong, all_right, back_wrong, tasks_named, none_by}
use Rattle.fb_check.proofs.judging.judge_ends.Goals as goal

pub end_fore-requires : goal.end_fore-requires
end_fore-requires g c = record { ready = c.requires.judged.fore_ready; some = some_same _ _ _ _ _ c.requires.judged c.requires.right }

pub returns-in-Some : goal.returns-in-Some
returns-in-Some g c = last_wrong _ _ _ _ _ c.requires.judged c.decisions_make_a_run.ensures c.requires.right c.end_fore.new.self
    c.in_ok-end_fore.ensures c.in-Some.mismatch c.in-Some.is

pub compare_back-compared-requires-clause-named : goal.compare_back-compared-requires-clause-named
compare_back-compared-requires-clause-named g c =
    let judged = c.requires.judged in
    let rows = rw judged.no_back at (c.in_ok-add_task_rows.ensures.rows _ judged.steps judged.made) in
    tasks_named _ c.args.inputs.calls.now.names c.take_rows-rows.result.back _ c.requires.names (c.take_rows-rows.ensures.back ∙ rows)
    (c.in_ok-add_task_rows.ensures.fits _ judged.steps judged.made)

pub returns-in-Some-wrong : goal.returns-in-Some-wrong
returns-in-Some-wrong g c =
    let judged = c.requires.judged in
    let rows = rw judged.no_back at (c.in_ok-add_task_rows.ensures.rows _ judged.steps judged.made) in
    let made = c.take_rows-rows.ensures.made _ _ judged.steps (c.in_ok-add_task_rows.ensures.made _ judged.steps judged.made) in
    back_wrong _ _ _ _ _ judged c.decisions_make_a_run.ensures c.requires.right c.end_fore.new.self c.in_ok-end_fore.ensures
    (none_by _ c.in_default.not-Some) c.take_rows-rows.result.back (c.take_rows-rows.ensures.back ∙ rows)
    c.compare_back-compared.new.self c.end_back.new.self c.instant.result (c.instant.ensures.end _ judged.steps made)
    (c.in_ok-compared.ensures.compared _ judged.back_rows judged.back_compared) c.in_ok-compared.ensures.ready c.in_ok-end_back.ensures
    c.in-Some-wrong.mismatch c.in-Some-wrong.is

pub returns-in-None : goal.returns-in-None
returns-in-None g c =
    let judged = c.requires.judged in
    let rows = rw judged.no_back at (c.in_ok-add_task_rows.ensures.rows _ judged.steps judged.made) in
    let made = c.take_rows-rows.ensures.made _ _ judged.steps (c.in_ok-add_task_rows.ensures.made _ judged.steps judged.made) in
    all_right _ _ _ _ _ judged c.decisions_make_a_run.ensures c.requires.right c.end_fore.new.self c.in_ok-end_fore.ensures
    (none_by _ c.in_default.not-Some) c.take_rows-rows.result.back (c.take_rows-rows.ensures.back ∙ rows)
    c.compare_back-compared.new.self c.end_back.new.self c.instant.result (c.instant.ensures.end _ judged.steps made)
    (c.in_ok-compared.ensures.compared _ judged.back_rows judged.back_compared) c.in_ok-compared.ensures.ready c.in_ok-end_back.ensures
    c.in-None.is
