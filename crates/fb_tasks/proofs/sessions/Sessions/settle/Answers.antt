use Rattle.fb_tasks.proofs.Words.{◌++◌, [], ap, ◌∙◌, append_assoc, on_ok_weaker, flat_map, task_numbers, test_rows_found}
use Rattle.fb_tasks.proofs.Words.{segment_rows_found, ends_of, with_choices, on_err, on_err_weaker}
use Rattle.fb_tasks.proofs.{RowsOf.rows-given, RowsOf.nothing-mute, Tested.up_to_date-tested}
use Rattle.fb_tasks.proofs.Leaving.{begun_after, begun_longer}
use Rattle.fb_tasks.proofs.sessions.Sessions.settle.Goals as goal

pub test_touched-requires : goal.test_touched-requires
test_touched-requires c =
    (c.args.map.now, with_choices c.args.map.now c.requires.0, (c.in_ok-choose_touched.ensures.chosen c.requires.0 c.requires.1).0)

pub returns-clause-tells : goal.returns-clause-tells
returns-clause-tells c = on_ok_weaker c.test_touched.result (λ tested past may.
    (tested c.args.map.now (with_choices c.args.map.now past) (c.in_ok-choose_touched.ensures.chosen past may).0).0)
    c.test_touched.ensures.tested

pub returns-clause-up_to_date : goal.returns-clause-up_to_date
returns-clause-up_to_date c = on_ok_weaker c.test_touched.result (λ _ past may.
    let chosen = (c.in_ok-choose_touched.ensures.chosen past may).0 in
    up_to_date-tested (with_choices c.args.map.now past) (test_rows_found (with_choices c.args.map.now past) c.args.now)
    (λ task less. rows-given (with_choices c.args.map.now past) c.args.now [] nothing-mute task
    (λ more. (chosen.blocks.unopened task more).choices))) c.test_touched.ensures.tested

pub returns-clause-rows : goal.returns-clause-rows
unfolding test_rows_found
returns-clause-rows c = on_ok_weaker c.test_touched.result (λ tested past may.
    let new = with_choices c.args.map.now past in
    let chosen = c.in_ok-choose_touched.ensures.chosen past may in
    (tested c.args.map.now new chosen.0).1
    ∙ (ap (λ rows. rows ++ flat_map (ends_of new c.args.now) (task_numbers new)) chosen.1
    ∙ append_assoc c.args.rows.now (flat_map (segment_rows_found new c.args.now) (task_numbers new))
    (flat_map (ends_of new c.args.now) (task_numbers new)))) c.test_touched.ensures.tested

pub returns-clause-err_rows : goal.returns-clause-err_rows
unfolding test_rows_found
returns-clause-err_rows c = on_err_weaker c.test_touched.result (λ begins past may.
    let new = with_choices c.args.map.now past in
    let chosen = c.in_ok-choose_touched.ensures.chosen past may in
    begun_after (flat_map (segment_rows_found new c.args.now) (task_numbers new)) chosen.1 (begins c.args.map.now new chosen.0))
    c.test_touched.ensures.err_rows

pub returns-in_err-choose_touched-clause-err_rows : goal.returns-in_err-choose_touched-clause-err_rows
unfolding test_rows_found
returns-in_err-choose_touched-clause-err_rows c = on_err c.from_residual.result (λ past may.
    let new = with_choices c.args.map.now past in
    begun_longer (flat_map (ends_of new c.args.now) (task_numbers new)) (c.in_err-choose_touched.ensures.err_rows past may))
