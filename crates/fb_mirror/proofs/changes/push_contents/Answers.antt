use Rattle.fb_mirror.proofs.Listing.{run_added}
use Rattle.fb_mirror.proofs.changes.push_contents.Goals as goal

pub loop-i-preserved : goal.loop-i-preserved
loop-i-preserved c =
    run_added (λ run. record { instant = c.args.instant; run = run }) c.args.contents.now c.loop-i.i c.get-run.result _ _ _
    c.get-run.ensures.value c.loop-i.invariant c.in_ok-push.ensures.items
