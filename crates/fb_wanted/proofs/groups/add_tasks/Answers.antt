use Rattle.fb_wanted.proofs.Words.{[], length, ap, arith, length_push, IfOk-from_err, one_blank_more}
use Rattle.fb_wanted.proofs.groups.add_tasks.Goals as goal

pub loop-preserved : goal.loop-preserved
loop-preserved c =
    let tasks = c.loop.tasks.items in
    let pushed = c.in_ok-push.ensures.items in (
      one_blank_more c.args.tasks.now.items tasks c.push.new.self.items c.new.result [] c.loop.invariant.0 pushed c.new.ensures,
      omega (arith, ap length pushed, length_push tasks c.new.result),
    )

pub returns-in_err-push : goal.returns-in_err-push
returns-in_err-push c = record {
  stay = rw c.in_err-push.ensures.items c.loop.invariant.0;
  there = IfOk-from_err c.from_residual.result _ c.from_residual.ensures.0;
}
