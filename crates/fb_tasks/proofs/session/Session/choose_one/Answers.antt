use Rattle.fb_tasks.proofs.Words.{ap, sym, ◌∙◌, refl, arith, true≢false, Session, by_calls, on_err}
use Rattle.fb_tasks.proofs.ChoiceSteps.{choice-step, none-step, none-chosen, live-on_disk, live-few, live-chosen, empty-chosen, begun-one}
use Rattle.fb_tasks.proofs.session.Session.choose_one.Goals as goal

pub want_live-requires-clause-on_disk : goal.want_live-requires-clause-on_disk
want_live-requires-clause-on_disk c =
    live-on_disk c.requires.cleans c.requires.may.1 c.in-Some.segment
    (choice-step c.requires.cleans c.requires.may.1 c.in-Some.segment (sym c.in-Some.ensures.choice))
    c.choose.new.self c.in-Some.ensures.state

pub want_live-requires-clause-few : goal.want_live-requires-clause-few
want_live-requires-clause-few c =
    live-few c.requires.cleans c.requires.may.1 c.in-Some.segment
    (choice-step c.requires.cleans c.requires.may.1 c.in-Some.segment (sym c.in-Some.ensures.choice))
    c.choose.new.self c.in-Some.ensures.state

pub returns-in_ok-finish-in-Some-clause-chosen : goal.returns-in_ok-finish-in-Some-clause-chosen
returns-in_ok-finish-in-Some-clause-chosen c = λ past may. rw c.in_ok-finish-in-Some.ensures.session
    (empty-chosen c.requires.cleans may c.in-Some.segment (choice-step c.requires.cleans may c.in-Some.segment
    (sym c.in-Some.ensures.choice))
    c.choose.new.self c.in-Some.ensures.state (omega (arith, c.count-sectors.ensures.value, c.count-sectors.ensures.bound))
    c.want_live.new.wanted c.in_ok-want_live-in-Some.ensures.all
    c.args.stamp.instant c.args.rows.now c.finish.new.rows c.new.result (sym c.live_count.ensures ∙ c.if-live_count-eq0.true) c.new.ensures
    c.in_ok-finish-in-Some.ensures.row)

pub returns-else-live_count-eq0-clause-chosen : goal.returns-else-live_count-eq0-clause-chosen
returns-else-live_count-eq0-clause-chosen c = λ past may.
    live-chosen c.requires.cleans may c.in-Some.segment (choice-step c.requires.cleans may c.in-Some.segment (sym c.in-Some.ensures.choice))
    c.choose.new.self c.in-Some.ensures.state (omega (arith, c.count-sectors.ensures.value, c.count-sectors.ensures.bound))
    c.want_live.new.wanted c.in_ok-want_live-in-Some.ensures.all
    c.args.stamp.instant c.args.rows.now (omega (arith, c.live_count.ensures, c.if-live_count-eq0.false))

pub returns-in-None-clause-chosen : goal.returns-in-None-clause-chosen
returns-in-None-clause-chosen c = λ past may.
    none-chosen c.requires.cleans may c.choose.new.self c.args.stamp.instant c.args.rows.now
    (sym c.in-None.ensures.choice) c.in-None.ensures.state

pub returns-in-None-clause-none : goal.returns-in-None-clause-none
returns-in-None-clause-none c = λ _ past may. none-step c.requires.cleans may (sym c.in-None.ensures.choice)

pub returns-in_ok-finish-in-Some-clause-none : goal.returns-in_ok-finish-in-Some-clause-none
returns-in_ok-finish-in-Some-clause-none c = λ never. absurd (true≢false never)

pub returns-else-live_count-eq0-clause-none : goal.returns-else-live_count-eq0-clause-none
returns-else-live_count-eq0-clause-none c = λ never. absurd (true≢false never)

pub want_live-requires-clause-block : goal.want_live-requires-clause-block
want_live-requires-clause-block c = c.requires.may.1.stands.block

pub want_live-requires-clause-weight : goal.want_live-requires-clause-weight
want_live-requires-clause-weight c = c.requires.may.1.stands.weight

pub want_live-requires-clause-added : goal.want_live-requires-clause-added
want_live-requires-clause-added c = c.in-Some.ensures.known

pub finish-requires-clause-chosen : goal.finish-requires-clause-chosen
finish-requires-clause-chosen c = ap (λ log. log.unfinished) c.in-Some.ensures.state

pub finish-requires-clause-added : goal.finish-requires-clause-added
finish-requires-clause-added c = c.in-Some.ensures.known

pub live_count-requires : goal.live_count-requires
live_count-requires c = c.in-Some.ensures.known

pub returns-in_ok-finish-in-Some-clause-same : goal.returns-in_ok-finish-in-Some-clause-same
returns-in_ok-finish-in-Some-clause-same c =
    (ap by_calls c.in_ok-finish-in-Some.ensures.session, ap (λ (s : Session). s.touched) c.in_ok-finish-in-Some.ensures.session)

pub returns-in_err-finish-in-Some-clause-same : goal.returns-in_err-finish-in-Some-clause-same
returns-in_err-finish-in-Some-clause-same c =
    (ap by_calls c.in_err-finish-in-Some.ensures.session, ap (λ (s : Session). s.touched) c.in_err-finish-in-Some.ensures.session)

pub returns-in_err-want_live-in-Some-clause-begun : goal.returns-in_err-want_live-in-Some-clause-begun
returns-in_err-want_live-in-Some-clause-begun c = on_err c.from_residual.result (λ past may.
    begun-one c.requires.cleans may c.in-Some.segment (choice-step c.requires.cleans may c.in-Some.segment (sym c.in-Some.ensures.choice))
    c.choose.new.self c.in-Some.ensures.state (omega (arith, c.count-sectors.ensures.value, c.count-sectors.ensures.bound))
    _ refl c.args.stamp.instant c.args.rows.now c.want_live.ensures.begun refl)

pub returns-in_err-finish-in-Some-clause-begun : goal.returns-in_err-finish-in-Some-clause-begun
returns-in_err-finish-in-Some-clause-begun c = on_err c.from_residual-in_err-finish-in-Some.result (λ past may.
    begun-one c.requires.cleans may c.in-Some.segment (choice-step c.requires.cleans may c.in-Some.segment (sym c.in-Some.ensures.choice))
    c.choose.new.self c.in-Some.ensures.state (omega (arith, c.count-sectors.ensures.value, c.count-sectors.ensures.bound))
    _ refl c.args.stamp.instant c.args.rows.now c.want_live.ensures.begun c.in_err-finish-in-Some.ensures.err)
