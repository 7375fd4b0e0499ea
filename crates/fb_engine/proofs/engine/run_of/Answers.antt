use Rattle.std.proofs.Common.{◌∙◌, ap}
use Rattle.fb_decide.specs.declared.run_inputs.RunInputs.{RunInputs}
use Rattle.fb_engine.proofs.Looping.{is_full, is_few, rows_fit}
use Rattle.fb_engine.proofs.engine.run_of.Goals as goal

pub decide_all-requires : goal.decide_all-requires
decide_all-requires g c = record { advanced = c.requires.advanced; fits = c.requires.fits }

pub add_task_rows-requires : goal.add_task_rows-requires
add_task_rows-requires g c = let advanced = c.in_ok-decide_all.ensures.advanced in (_, advanced.steps, advanced.made)

pub returns : goal.returns
returns g c =
    let law = c.decisions_make_a_run.ensures in
    let advanced = c.in_ok-decide_all.ensures.advanced in
    let rows = c.take_rows-rows.result in
    let fore = c.take_rows-rows.ensures.fore ∙ c.in_ok-add_task_rows.ensures.fore in
    let back = c.take_rows-rows.ensures.back ∙ c.in_ok-add_task_rows.ensures.rows _ advanced.steps advanced.made in
    let fit = rows_fit advanced rows.back back (c.in_ok-add_task_rows.ensures.fits _ advanced.steps advanced.made) in
    record {
      full = is_full advanced rows.fore rows.back fore back _ c.instant-end.result
          (ap (λ (inputs : RunInputs). inputs.trace.now.passed_over) c.inputs-inputs.ensures) law
          (c.instant-end.ensures.end _ advanced.steps advanced.made);
      few = is_few advanced rows.fore fore law;
      early = c.instant-end.ensures.early _ advanced.steps advanced.made;
      tasks = fit;
    }
