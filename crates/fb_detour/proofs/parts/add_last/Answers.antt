use Rattle.fb_detour.proofs.Words.{arith, get_or, if◌then◌else◌, nat_le, ℕ, ◌*◌, ◌+◌, ◌∙◌, ◌≡◌, length-set}
use Rattle.fb_detour.proofs.Arrays.{set-above, set-below}
use Rattle.fb_detour.proofs.parts.add_last.Goals as goal

pub loop-k-preserved : goal.loop-k-preserved
loop-k-preserved c =
    let old = c.args.parts.now in
    let parts = c.loop-k.parts in
    let k = c.loop-k.k in
    let sum = get_or parts k 0 + c.worth_by.result in
    let added = λ (j : ℕ). if nat_le (c.args.begin + j * c.args.step) c.args.last then c.args.worth else 0 in (
      length-set parts k sum ∙ c.loop-k.invariant.0,
      set-below (λ j part. part ≡ get_or old j 0 + added j) parts k sum (omega (arith, c.loop-k.invariant.0, c.loop-k-test.true))
          c.loop-k.invariant.1 (omega (arith, c.loop-k.invariant.2 k (omega arith), c.worth_by.ensures.value)),
      set-above (λ j part. part ≡ get_or old j 0) parts k sum c.loop-k.invariant.2,
    )
