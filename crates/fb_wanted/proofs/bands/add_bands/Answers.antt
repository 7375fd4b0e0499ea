use Rattle.fb_wanted.proofs.Words.{◌≡◌, ◌+◌, length, refl, arith, length_push, IfOk-from_err, one_blank_more}
use Rattle.fb_wanted.proofs.bands.add_bands.Goals as goal

pub loop-preserved : goal.loop-preserved
loop-preserved g c =
    let bands = c.loop.bands.items in
    let new = c.push.new.self.items in
    let nothing = c.args.nothing in
    let pushed = c.in_ok-push.ensures.items in
    let longer : length new ≡ length bands + 1 = rw pushed (length_push bands nothing) in (
      one_blank_more c.args.bands.now.items bands new nothing nothing c.loop.invariant.0 pushed refl,
      omega (arith, longer),
      omega (arith, longer),
      λ n long reach. omega (arith, longer),
    )

pub returns-in_err-push : goal.returns-in_err-push
returns-in_err-push g c =
    let as_before = c.in_err-push.ensures.items in record {
      stay = rw as_before c.loop.invariant.0;
      longer = rw as_before c.loop.invariant.1;
      no_longer = rw as_before c.loop.invariant.3;
      there = IfOk-from_err c.from_residual.result _ c.from_residual.ensures.0;
    }
