use Rattle.fb_tasks.proofs.Words.{ap, ◌∙◌, Unreadable, same_content}
use Rattle.fb_tasks.proofs.RowsOf.{bad_pushed, bad_passed}
use Rattle.fb_tasks.proofs.delivering.bad_sectors.Goals.{in-Unreadable+in_ok-push_range-in-Unreadable, in-Filled}
use Rattle.fb_tasks.proofs.delivering.bad_sectors.Goals as goal

pub loop-i-preserved : goal.loop-i-preserved
loop-i-preserved c =
    elim c.match-run.branch [
      | in-Unreadable+in_ok-push_range-in-Unreadable w ↦ bad_pushed c.args.content.now c.loop-i.i c.get-run.result c.get-run.ensures.value
          c.loop-i.lbns.items c.match-run.lbns.items c.loop-i.invariant (ap (λ x. same_content x Unreadable) w.in-Unreadable.is)
          (ap (λ v. v.items) w.lbns-is ∙ w.in_ok-push_range-in-Unreadable.ensures)
      | in-Filled w ↦ bad_passed c.args.content.now c.loop-i.i c.get-run.result c.get-run.ensures.value c.loop-i.lbns.items
          c.match-run.lbns.items c.loop-i.invariant (ap (λ x. same_content x Unreadable) w.in-Filled.is) (ap (λ v. v.items) w.lbns-is)
    ]
