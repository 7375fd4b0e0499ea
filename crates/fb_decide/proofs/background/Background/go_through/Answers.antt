use Rattle.fb_decide.proofs.Words.{◌≡◌, ◌++◌, subst, on_ok_weaker, wanted, missed, caught_in_gap, caught_rows, HasDelivered, past_with}
use Rattle.fb_decide.proofs.Words.{held_now}
use Rattle.std.proofs.Common.{subst₂}
use Rattle.fb_rows.specs.declared.gap.How.TheVariants.{Gap as ByGap}
use Rattle.fb_decide.proofs.Delivering.{with_rows}
use Rattle.fb_decide.proofs.Placing.{delivered-both, left-both}
use Rattle.fb_decide.proofs.background.Background.go_through.Goals as goal

pub deliver_in_dwell-requires-clause-current : goal.deliver_in_dwell-requires-clause-current
deliver_in_dwell-requires-clause-current c = (c.requires.current.0, with_rows c.push.new.self c.requires.current.1)

pub deliver_in_dwell-requires-2-clause-current : goal.deliver_in_dwell-requires-2-clause-current
deliver_in_dwell-requires-2-clause-current c =
    let past = c.requires.current.0 in
    (_, (c.in_ok-deliver_in_dwell.ensures.delivered past (with_rows c.push.new.self c.requires.current.1)).current)

pub returns-clause-delivered : goal.returns-clause-delivered
returns-clause-delivered c = on_ok_weaker c.deliver_in_dwell-2.result (λ next past current.
    let disk = c.args.disk.now in
    let holding = c.args.store.now in
    let pushed = with_rows c.push.new.self current in
    subst (λ rows. HasDelivered disk.map past
    (caught_in_gap disk (held_now holding) c.args.row.gap c.args.row.plan (wanted past)) rows c.deliver_in_dwell-2.new.self)
    c.in_ok-push.ensures.ok
    (subst₂ (λ early late. HasDelivered disk.map past (caught_rows disk (held_now holding) ByGap early (wanted past)
    ++ caught_rows disk (held_now holding) ByGap late (missed disk early (wanted past))) c.push.new.self c.deliver_in_dwell-2.new.self)
    c.dwells-pair.ensures.early c.dwells-pair.ensures.late
    (delivered-both disk holding ByGap c.dwells-pair.result.early c.dwells-pair.result.late past c.push.new.self c.deliver_in_dwell.new.self
    c.deliver_in_dwell-2.new.self
    (c.in_ok-deliver_in_dwell.ensures.left past pushed) (c.in_ok-deliver_in_dwell.ensures.delivered past pushed) next)))
    c.deliver_in_dwell-2.ensures.delivered

pub returns-clause-left : goal.returns-clause-left
returns-clause-left c = on_ok_weaker c.deliver_in_dwell-2.result (λ next past current.
    let disk = c.args.disk.now in
    let holding = c.args.store.now in
    let pushed = with_rows c.push.new.self current in
    let first = c.in_ok-deliver_in_dwell.ensures.delivered past pushed in
    subst₂ (λ early late. wanted (past_with past (caught_rows disk (held_now holding) ByGap early (wanted past)
    ++ caught_rows disk (held_now holding) ByGap late (missed disk early (wanted past))))
    ≡ missed disk late (missed disk early (wanted past)))
    c.dwells-pair.ensures.early c.dwells-pair.ensures.late
    (left-both disk holding ByGap c.dwells-pair.result.early c.dwells-pair.result.late past
    (c.in_ok-deliver_in_dwell.ensures.left past pushed) (next _ first.current))) c.deliver_in_dwell-2.ensures.left
