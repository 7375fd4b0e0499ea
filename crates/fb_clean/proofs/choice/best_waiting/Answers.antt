use Rattle.std.proofs.Common.{arith}
use Rattle.fb_clean.proofs.Ranked.{none_left, first_is, greatest_is, rank_there}
use Rattle.fb_clean.proofs.choice.best_waiting.Goals as goal

pub returns-then-first-segments-clause-none : goal.returns-then-first-segments-clause-none
returns-then-first-segments-clause-none c = none_left c.requires.numbered.0 c.requires.numbered.1 c.requires.ranked
    (omega (arith, c.if-first-segments.true))

pub returns-then-is_empty-clause-some : goal.returns-then-is_empty-clause-some
returns-then-is_empty-clause-some c = first_is c.requires.numbered.0 c.requires.numbered.1 c.requires.ranked c.index-segments-first.result
    (omega (arith, c.requires.first.0, c.if-first-segments.false)) c.index-segments-first.is c.requires.first.1 c.if-is_empty.ensures

pub number_of-requires : goal.number_of-requires
number_of-requires c =
    let top = greatest_is c.requires.numbered.0 c.requires.numbered.1 c.requires.ranked c.index-segments-first.result
    (omega (arith, c.requires.first.0, c.if-first-segments.false)) c.index-segments-first.is c.requires.first.1 c.if-is_empty.ensures
    c.in-Some.rank.now c.in-Some.ensures.member c.in-Some.ensures.greatest in
    (top.0, top.1, top.2)

pub overflow_sub-result : goal.overflow_sub-result
overflow_sub-result c =
    let top = greatest_is c.requires.numbered.0 c.requires.numbered.1 c.requires.ranked c.index-segments-first.result
    (omega (arith, c.requires.first.0, c.if-first-segments.false)) c.index-segments-first.is c.requires.first.1 c.if-is_empty.ensures
    c.in-Some.rank.now c.in-Some.ensures.member c.in-Some.ensures.greatest in
    (top.3 c.number_of.result (c.number_of.ensures top.0 top.1 top.2)).0

pub returns-in-Some-clause-some : goal.returns-in-Some-clause-some
returns-in-Some-clause-some c =
    let top = greatest_is c.requires.numbered.0 c.requires.numbered.1 c.requires.ranked c.index-segments-first.result
    (omega (arith, c.requires.first.0, c.if-first-segments.false)) c.index-segments-first.is c.requires.first.1 c.if-is_empty.ensures
    c.in-Some.rank.now c.in-Some.ensures.member c.in-Some.ensures.greatest in
    (top.3 c.number_of.result (c.number_of.ensures top.0 top.1 top.2)).2

pub returns-in-Some-clause-within : goal.returns-in-Some-clause-within
returns-in-Some-clause-within c =
    let top = greatest_is c.requires.numbered.0 c.requires.numbered.1 c.requires.ranked c.index-segments-first.result
    (omega (arith, c.requires.first.0, c.if-first-segments.false)) c.index-segments-first.is c.requires.first.1 c.if-is_empty.ensures
    c.in-Some.rank.now c.in-Some.ensures.member c.in-Some.ensures.greatest in
    (top.3 c.number_of.result (c.number_of.ensures top.0 top.1 top.2)).1

pub returns-in-None-clause-none : goal.returns-in-None-clause-none
returns-in-None-clause-none c =
    let some = rank_there c.requires.numbered.0 c.requires.numbered.1 c.requires.ranked c.index-segments-first.result
    (omega (arith, c.requires.first.0, c.if-first-segments.false)) c.index-segments-first.is c.requires.first.1 in
    absurd (grind (arith, c.in-None.ensures.variant, some))
