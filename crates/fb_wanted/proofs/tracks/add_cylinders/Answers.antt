use Rattle.fb_wanted.proofs.Words.{[], length, ap, ◌∙◌, arith, length_push, IfOk-from_err, one_blank_more}
use Rattle.fb_wanted.proofs.tracks.add_cylinders.Goals as goal

pub loop-preserved : goal.loop-preserved
loop-preserved c =
    let cylinders = c.loop.cylinders.items in
    let new = c.push.new.self.items in
    let pushed = c.in_ok-push.ensures.items in
    let longer = ap length pushed ∙ length_push cylinders c.new.result in (
      one_blank_more c.args.cylinders.now.items cylinders new c.new.result [] c.loop.invariant.0 pushed c.new.ensures,
      omega (arith, longer),
      λ n long reach. omega (arith, longer),
    )

pub returns-in_err-push : goal.returns-in_err-push
returns-in_err-push c =
    let as_before = c.in_err-push.ensures.items in record {
      stay = rw as_before c.loop.invariant.0;
      no_longer = rw as_before c.loop.invariant.2;
      there = IfOk-from_err c.from_residual.result _ c.from_residual.ensures.0;
    }
