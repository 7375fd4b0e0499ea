use Rattle.fb_detour.proofs.Words.{arith, ◌*◌, ◌+◌, ◌-◌, ◌∙◌, length-set, IsKey}
use Rattle.fb_detour.proofs.Arrays.{set-below}
use Rattle.fb_detour.proofs.Keys.{key-of}
use Rattle.fb_detour.proofs.search.keys_of.Goals as goal

pub loop-j-preserved : goal.loop-j-preserved
loop-j-preserved c =
    let most = c.most_within-most in
    let key = most.result * 8 + (8 - c.loop-j.j) in
    let its = key-of c.args.search.now c.args.from c.args.end c.args.width c.loop-j.j most.result _ (omega (arith, c.loop-j-test.true))
    most.ensures.small c.min-upto.ensures most.ensures.most in (
      length-set c.loop-j.keys c.loop-j.j key ∙ c.loop-j.invariant.0,
      set-below (IsKey c.args.search.now c.args.from c.args.end c.args.width) c.loop-j.keys c.loop-j.j key
          (omega (arith, c.loop-j.invariant.0, c.loop-j-test.true)) c.loop-j.invariant.1 its,
    )
