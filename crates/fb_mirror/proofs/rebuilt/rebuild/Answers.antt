use Rattle.fb_mirror.proofs.Words.{None, arith, ◌∙◌, is_some, range_with_len, sectors_of, after_taking, events, held_after}
use Rattle.fb_mirror.proofs.Covering.{held_sum, kept_few}
use Rattle.fb_mirror.proofs.rebuilt.rebuild.Goals as goal

pub over_unreadable-requires-clause-ranges : goal.over_unreadable-requires-clause-ranges
over_unreadable-requires-clause-ranges c = c.in_ok-contents.ensures.within c.args.count c.requires.ranges

pub sectors-requires : goal.sectors-requires
sectors-requires c =
    let lbns = range_with_len 0 c.args.count in
    let held = held_after (events c.args.run.now) in
    let are = c.in_ok-covered.ensures c.args.count (c.in_ok-contents.ensures.within c.args.count c.requires.ranges) in
    let sum = held_sum (λ lbn. after_taking (sectors_of c.in_ok-contents.contents) lbn None) held c.in_ok-covered.covered lbns are
    c.in_ok-contents.ensures.held in
    let few = kept_few (λ lbn. is_some (held lbn)) 0 c.args.count in
    omega (arith, sum, few, c.requires.disk)

pub returns-clause-covered : goal.returns-clause-covered
returns-clause-covered c =
    let are = c.in_ok-covered.ensures c.args.count (c.in_ok-contents.ensures.within c.args.count c.requires.ranges) in
    c.sectors.ensures
    ∙ held_sum (λ lbn. after_taking (sectors_of c.in_ok-contents.contents) lbn None)
    (held_after (events c.args.run.now)) c.in_ok-covered.covered (range_with_len 0 c.args.count) are c.in_ok-contents.ensures.held

pub returns-clause-most : goal.returns-clause-most
returns-clause-most c =
    let held = held_after (events c.args.run.now) in
    let few = kept_few (λ lbn. is_some (held lbn)) 0 c.args.count in
    omega (arith, few, returns-clause-covered c)
