use Rattle.fb_tasks.proofs.Words.{◌++◌, ap, sym, ◌∙◌, append-nil, on_ok_weaker}
use Rattle.fb_tasks.proofs.Finished.{unequal_tested, unchosen_tested, chosen_tested}
use Rattle.fb_tasks.proofs.session.Session.test_segment.Goals as goal

pub returns-then-counts-clause-ok : goal.returns-then-counts-clause-ok
returns-then-counts-clause-ok c = λ disk past may.
    let is = unequal_tested c.args.self.now may c.args.now c.counts-counts.result c.counts-counts.ensures c.if-counts.true in
    (is.stands, is.at_work, sym (append-nil c.args.rows.now) ∙ ap (λ rows. c.args.rows.now ++ rows) is.rows)

pub returns-in_ok-content-in-Some-clause-ok : goal.returns-in_ok-content-in-Some-clause-ok
returns-in_ok-content-in-Some-clause-ok c = on_ok_weaker c.finish.result (λ pushed disk past may.
    let is = chosen_tested c.args.self.now may c.args.now c.counts-counts.result
    c.counts-counts.ensures c.if-counts.false c.finish.new.self c.in-Some.segment c.in_ok-content-in-Some.content c.finish.ensures.session
    (sym c.in-Some.ensures.value) c.in_ok-content-in-Some.ensures in
    (is.stands, is.at_work, pushed ∙ ap (λ rows. c.args.rows.now ++ rows) is.rows)) c.finish.ensures.row

pub returns-in-None-clause-ok : goal.returns-in-None-clause-ok
returns-in-None-clause-ok c = λ disk past may.
    let is = unchosen_tested c.args.self.now may c.args.now (sym c.in-None.ensures.value) in
    (is.stands, is.at_work, sym (append-nil c.args.rows.now) ∙ ap (λ rows. c.args.rows.now ++ rows) is.rows)
