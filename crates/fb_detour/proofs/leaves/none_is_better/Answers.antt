use Rattle.fb_detour.proofs.Words.{arith, get_or, ◌*◌, ◌+◌, mul-le}
use Rattle.fb_detour.proofs.Ways.{none_better_in, late-part}
use Rattle.fb_detour.proofs.leaves.none_is_better.Goals as goal

pub loop-k-init : goal.loop-k-init
loop-k-init c = λ leave less is. absurd (omega (arith, less, c.requires.ceilings.begin, is.after_arrival))

pub overflow_mul-from : goal.overflow_mul-from
overflow_mul-from c =
    let step = c.args.ceilings.now.step in
    let within = mul-le c.loop-k.k step 16 step (omega (arith, c.loop-k-test.true)) (omega arith) in
    omega (arith, within, c.requires.ceilings.close, c.requires.search.gap.early_enough)

pub overflow_add-from : goal.overflow_add-from
overflow_add-from c =
    let step = c.args.ceilings.now.step in
    let within = mul-le c.loop-k.k step 16 step (omega (arith, c.loop-k-test.true)) (omega arith) in
    omega (arith, within, c.requires.ceilings.close, c.requires.search.gap.early_enough)

pub returns-then-latest-from : goal.returns-then-latest-from
returns-then-latest-from c = λ yes leave is.
    c.loop-k.invariant leave (omega (arith, c.if-latest-from.true, is.in_time, c.requires.ceilings.on)) is

pub overflow_add-from-in-loop-k : goal.overflow_add-from-in-loop-k
overflow_add-from-in-loop-k c = omega (arith, c.if-latest-from.false, c.requires.in_time, c.requires.search.gap.early_enough)

pub late_at-after-requires-clause-begin : goal.late_at-after-requires-clause-begin
late_at-after-requires-clause-begin c = omega (arith, c.requires.ceilings.late.from_now, c.requires.ceilings.begin)

pub overflow_add-ceilings : goal.overflow_add-ceilings
overflow_add-ceilings c =
    omega (arith, c.requires.ceilings.small c.loop-k.k (omega (arith, c.loop-k-test.true)), c.late_at-after.ensures.small)

pub loop-k-preserved : goal.loop-k-preserved
loop-k-preserved c = λ leave less is.
    let search = c.args.search.now in
    let its = c.requires.ceilings in
    let ceilings = c.args.ceilings.now in
    let from = ceilings.begin + c.loop-k.k * ceilings.step in
    let late = late-part search ceilings.late.now (from + ceilings.move_on) its.late (omega (arith, its.begin)) in
    none_better_in search c.args.best c.args.track ceilings.begin ceilings.move_on from (ceilings.begin + (c.loop-k.k + 1) * ceilings.step)
    (get_or ceilings.early c.loop-k.k 0) c.late_at-after.result c.requires.best (c.is_enough.ensures c.if-not-is_enough.false)
    its.begin its.on (its.each c.loop-k.k (omega (arith, c.loop-k-test.true))) (omega (arith, late, c.late_at-after.ensures.value))
    c.loop-k.invariant leave (omega (arith, less)) is

pub returns : goal.returns
returns c = λ yes leave is.
    let step = c.args.ceilings.now.step in
    let whole = mul-le 16 step c.loop-k.k step (omega (arith, c.loop-k-test.false)) (omega arith) in
    c.loop-k.invariant leave (omega (arith, is.in_time, c.requires.ceilings.on, c.requires.ceilings.upto, whole)) is
