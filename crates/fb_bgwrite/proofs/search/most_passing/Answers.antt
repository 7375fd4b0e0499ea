use Rattle.fb_bgwrite.proofs.Words.{◌+◌, ◌-◌, ◌/◌, arith, subst, IsSound, HasOwnPlaces}
use Rattle.fb_bgwrite.proofs.Depths.{there_is_time, value_in_time}
use Rattle.fb_bgwrite.proofs.search.most_passing.Goals as goal

pub returns-then-gap-back : goal.returns-then-gap-back
returns-then-gap-back c = λ entries spill pending low high is.
    let moves = c.least_moves-moves in
    let late = there_is_time c.args.disk.now c.args.gap.now entries pending (subst IsSound c.geometry.ensures c.sound.ensures)
    (subst HasOwnPlaces c.geometry-2.ensures c.own_places.ensures)
    c.args.from c.args.end moves.result moves.ensures.least spill low high is in
    absurd (omega (arith, late))

pub returns : goal.returns
returns c = λ entries spill pending low high is.
    let moves = c.least_moves-moves in
    let gap = c.args.gap.now in
    let left = gap.deadline - (gap.now + moves.result.there + moves.result.on) in
    value_in_time c.args.disk.now gap entries pending (subst IsSound c.geometry.ensures c.sound.ensures)
    (subst HasOwnPlaces c.geometry-2.ensures c.own_places.ensures)
    c.args.from c.args.end moves.result moves.ensures.least spill low high is (left / c.args.share + 1)
    (c.requires.share.1 spill.track.cylinder left low high)
