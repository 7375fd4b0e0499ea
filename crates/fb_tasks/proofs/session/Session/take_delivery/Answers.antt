use Rattle.fb_tasks.proofs.Words.{◌∷◌, ◌∙◌, delivered, on_ok_weaker, on_err_weaker, on_err}
use Rattle.fb_tasks.proofs.AfterDelivery.{busy-own, has-chosen, has-delivered, begun-findings, begun-segment, begun-ends}
use Rattle.fb_tasks.proofs.Leaving.{begun_not, begun_same}
use Rattle.fb_tasks.proofs.session.Session.take_delivery.Goals as goal

pub keep-requires-clause-chosen : goal.keep-requires-clause-chosen
keep-requires-clause-chosen c = busy-own c.requires.4

pub test-requires : goal.test-requires
test-requires c = (
  c.requires.0,
  delivered c.args.got ∷ c.requires.1,
  has-chosen c.requires.4 c.in_ok-keep.ensures.taken c.args.rows.now (c.deref.ensures.value ∙ c.in_ok-findings.ensures)
      c.in_ok-push.ensures.ok c.in_ok-push_findings.ensures.ok c.in_ok-test_segment.ensures.ok,
)

pub returns-clause-delivered : goal.returns-clause-delivered
returns-clause-delivered c = on_ok_weaker c.test.result (λ tests disk past sessions held t.
    has-delivered t c.in_ok-keep.ensures.taken c.args.rows.now (c.deref.ensures.value ∙ c.in_ok-findings.ensures)
    c.in_ok-push.ensures.ok c.in_ok-push_findings.ensures.ok c.in_ok-test_segment.ensures.ok tests) c.test.ensures.tested

pub returns-clause-err_rows : goal.returns-clause-err_rows
returns-clause-err_rows c = on_err_weaker c.test.result (λ begins disk past sessions held t.
    begun-ends t c.in_ok-keep.ensures.taken c.args.rows.now (c.deref.ensures.value ∙ c.in_ok-findings.ensures)
    c.in_ok-push.ensures.ok c.in_ok-push_findings.ensures.ok c.in_ok-test_segment.ensures.ok begins) c.test.ensures.err_rows

pub returns-in_err-push_findings-clause-err_rows : goal.returns-in_err-push_findings-clause-err_rows
returns-in_err-push_findings-clause-err_rows c = on_err c.from_residual-in_err-push_findings.result (λ disk past sessions held t.
    begun-findings t c.in_ok-keep.ensures.taken c.args.rows.now
    (c.deref.ensures.value ∙ c.in_ok-findings.ensures) c.in_ok-push.ensures.ok c.in_err-push_findings.ensures.err)

pub returns-in_err-test_segment-clause-err_rows : goal.returns-in_err-test_segment-clause-err_rows
returns-in_err-test_segment-clause-err_rows c = on_err c.from_residual-in_err-test_segment.result (λ disk past sessions held t.
    begun-segment t c.in_ok-keep.ensures.taken c.args.rows.now (c.deref.ensures.value ∙ c.in_ok-findings.ensures)
    c.in_ok-push.ensures.ok c.in_ok-push_findings.ensures.ok c.in_err-test_segment.ensures.err)

pub keep-requires-clause-covers : goal.keep-requires-clause-covers
keep-requires-clause-covers c = (c.requires.4.may.content_at, c.requires.4.may.content)

pub returns-in_err-keep-clause-err_rows : goal.returns-in_err-keep-clause-err_rows
returns-in_err-keep-clause-err_rows c = on_err c.from_residual.result (λ disk past sessions held t. begun_not)

pub returns-in_err-findings-clause-err_rows : goal.returns-in_err-findings-clause-err_rows
returns-in_err-findings-clause-err_rows c = on_err c.from_residual-in_err-findings.result (λ disk past sessions held t. begun_not)

pub returns-in_err-push-clause-err_rows : goal.returns-in_err-push-clause-err_rows
returns-in_err-push-clause-err_rows c = on_err c.from_residual-in_err-push.result
    (λ disk past sessions held t. begun_same c.in_err-push.ensures.err)
