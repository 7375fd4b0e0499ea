use Rattle.fb_decide.proofs.Words.{map, take, arith, subst, HasDelivered, past_with, held_now, delivery_row}
use Rattle.fb_decide.proofs.Delivering.{delivered-none}
use Rattle.fb_decide.proofs.Placing.{delivered-more, row-at, next-catch, all-taken}
use Rattle.fb_decide.proofs.background.Background.deliver_all.Goals as goal

pub loop-catch-init : goal.loop-catch-init
loop-catch-init c = λ disk past current due. delivered-none current

pub deliver-requires : goal.deliver-requires
deliver-requires c =
    let disk = c.requires.0 in
    let past = c.requires.1 in
    let current = c.requires.2 in
    let due = c.requires.3 in
    let k = c.loop-catch.catch-index in
    let next = next-catch c.args.store.now c.args.how past c.args.catches.now due k _ c.loop-catch-test.true in
    record {
      wanted = (
        disk,
        past_with past (take k (map (delivery_row (held_now c.args.store.now) c.args.how) c.args.catches.now)),
        next.0,
        (c.loop-catch.invariant disk past current due).current,
        next.1,
      );
    }

pub loop-catch-preserved : goal.loop-catch-preserved
loop-catch-preserved c = λ disk past current due.
    let gots = map (delivery_row (held_now c.args.store.now) c.args.how) c.args.catches.now in
    let k = c.loop-catch.catch-index in
    let next = next-catch c.args.store.now c.args.how past c.args.catches.now due k _ c.loop-catch-test.true in
    let first = c.loop-catch.invariant disk past current due in
    delivered-more gots k _ (row-at c.args.store.now c.args.how c.args.catches.now k _ c.loop-catch-test.true) first
    (c.in_ok-deliver.ensures disk (past_with past (take k gots)) next.0 first.current next.1)

pub returns : goal.returns
returns c = λ disk past current due.
    subst (λ gots. HasDelivered disk past gots c.args.self.now.rows c.loop-catch.self)
    (all-taken c.args.store.now c.args.how c.args.catches.now c.loop-catch.catch-index (omega (arith, c.loop-catch-test.false)))
    (c.loop-catch.invariant disk past current due)
