use Rattle.std.proofs.Common.{◌∙◌}
use Rattle.fb_decide.proofs.Behind.{placed_first, placed_next, placed_come, placed_slice, placed_whole}
use Rattle.fb_decide.proofs.foreground.merged.Goals as goal

pub loop-read-init : goal.loop-read-init
loop-read-init c = (0, placed_first c.args.trace.now c.requires.0 _ _ c.requires.1 c.new-requests.ensures.items c.requires.2)

pub push_arrived-requires-clause-within : goal.push_arrived-requires-clause-within
push_arrived-requires-clause-within c = c.loop-read.invariant.1.within

pub push_arrived-requires-clause-come : goal.push_arrived-requires-clause-come
push_arrived-requires-clause-come c = placed_come _ _ _ _ _ _ _ _ c.loop-read-test.true c.loop-read.invariant.1

pub loop-read-preserved : goal.loop-read-preserved
loop-read-preserved c =
    let next = c.in_ok-next.ensures in (
      _,
      placed_next _ _ _ _ _ _ _ _ _ _ _ c.loop-read-test.true c.loop-read.invariant.1 next.same next.within next.come next.ahead
          c.in_ok-push.ensures.items,
    )

pub returns : goal.returns
returns c = c.in_ok-extend_from_slice.ensures.items ∙ placed_slice c.loop-read.requests.items c.args.trace.now c.loop-read.next
    ∙ placed_whole _ _ _ _ _ _ _ c.loop-read-test.false c.loop-read.invariant.1
