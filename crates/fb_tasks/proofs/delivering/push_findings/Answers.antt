use Rattle.fb_tasks.proofs.Words.{◌∙◌, Bad, on_err}
use Rattle.fb_tasks.proofs.Leaving.{begun_mapped}
use Rattle.fb_tasks.proofs.delivering.push_findings.Goals as goal

pub returns-in_err-push-clause-err : goal.returns-in_err-push-clause-err
returns-in_err-push-clause-err c = on_err c.from_residual.result (begun_mapped (λ lbn. Bad (record { task = c.args.task; lbn = lbn }))
    c.loop-lbn.lbn-index c.args.lbns.now (c.in_err-push.ensures.err ∙ c.loop-lbn.invariant))
