use Rattle.std.proofs.Common.{◌≤◌, ◌+◌, ◌^◌, length, arith, sym, subst}
use Rattle.std.specs.List.{AllByRecursion}
use Rattle.fb_clean.proofs.Live.{live_blocks-few, live_blocks-within}
use Rattle.fb_clean.proofs.segment.Segment.new.Goals as goal

pub invariant_of-result : goal.invariant_of-result
invariant_of-result c =
    let few = live_blocks-few c.args.block c.args.first c.args.live.now in (
      subst (λ lbns. length lbns ≤ c.len.result) (sym c.in_ok-live_lbns.ensures) (omega (arith, c.len.ensures)),
      omega (arith, c.len.ensures, c.requires.few),
    )

pub returns-clause-within : goal.returns-clause-within
returns-clause-within c = subst (AllByRecursion (λ lbn. lbn + c.args.block ≤ 10 ^ 12)) (sym c.in_ok-live_lbns.ensures)
    (live_blocks-within c.args.block c.args.first (10 ^ 12) c.args.live.now c.requires.range)
