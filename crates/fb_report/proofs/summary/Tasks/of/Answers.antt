use Rattle.fb_report.proofs.Words.{ap, arith, length, ◌+◌, ◌∙◌, task_in}
use Rattle.fb_report.proofs.Sums.{found_at, nothing_at, goes_on, stays, no_task}
use Rattle.fb_report.proofs.summary.Tasks.of.Goals.{in-Task, in_default}
use Rattle.fb_report.proofs.summary.Tasks.of.Goals as goal

pub loop-i-preserved : goal.loop-i-preserved
loop-i-preserved c =
    let so_far = c.loop-i.invariant in
    elim c.match-get.branch [
      | in-Task w ↦
          let found = found_at task_in c.args.rows.now c.loop-i.i c.get.result.now w.in-Task.row c.get.ensures (ap task_in w.in-Task.is) in
          record {
            complete = goes_on _ _ _ _ _ _ so_far.complete w.in-Task.row found (w.complete-is
                ∙ ap (λ n. c.loop-i.complete + n) w.one_if-complete.ensures.value);
            all = omega (arith, w.all-is, so_far.all, ap length found);
            few_complete = omega (arith, w.complete-is, w.one_if-complete.ensures.few, so_far.few_complete);
            few = omega (arith, w.all-is, so_far.few);
          }
      | in_default w ↦
          let other =
          nothing_at task_in c.args.rows.now c.loop-i.i c.get.result.now c.get.ensures (no_task c.get.result.now w.in_default.not-Task) in
          record {
            complete = stays _ _ _ _ _ _ so_far.complete other w.complete-is;
            all = omega (arith, w.all-is, so_far.all, ap length other);
            few_complete = omega (arith, w.complete-is, so_far.few_complete);
            few = omega (arith, w.all-is, so_far.few);
          }
    ]
