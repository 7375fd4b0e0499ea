use Rattle.fb_top.proofs.Words.{refl, sym, subst, ◌∙◌, check_terms, check_asks, then_calls, then_ends, still_read, failed_output}
use Rattle.fb_top.proofs.Words.{CheckHasCause, EndsAs, Outcome}
use Rattle.fb_top.proofs.Checking.{check_stopped, line_stopped, line_written, read_then, verdict_taken}
use Rattle.fb_top.proofs.Ends.{unread_ends, unwritten_ends}
use Rattle.fb_top.proofs.check.check_read.Goals as goal

pub returns-in-Err-clause-cause : goal.returns-in-Err-clause-cause
returns-in-Err-clause-cause g c = λ first takes.
    let terms = check_terms c.args.words.now in
    let new = g.D.Desk.seen c.judge_printed.new.desk in
    subst (CheckHasCause terms first new) (sym c.from.ensures)
    (check_stopped terms first new c.in-Err.error (c.in-Err.ensures.stops first takes))

pub returns-in-Err-clause-inputs : goal.returns-in-Err-clause-inputs
returns-in-Err-clause-inputs g c = λ first takes. read_then takes c.in-Err.ensures.account

pub returns-in-Err-clause-calls : goal.returns-in-Err-clause-calls
returns-in-Err-clause-calls g c =
    subst (λ (outcome : Outcome). EndsAs (check_asks (check_terms c.args.words.now)) outcome (g.D.Desk.seen c.args.desk.now).calls
    (g.D.Desk.seen c.judge_printed.new.desk).calls) (sym c.from.ensures) (unread_ends _ c.in-Err.error _ _ c.in-Err.ensures.account.calls)

pub returns-in-Ok-write_verdict-clause-cause : goal.returns-in-Ok-write_verdict-clause-cause
returns-in-Ok-write_verdict-clause-cause g c = λ first takes.
    let late = g.D.Desk.seen c.judge_printed.new.desk in
    line_written (check_terms c.args.words.now) first late (g.D.Desk.seen c.write_verdict.new.desk) c.in-Ok.verdict
    (verdict_taken takes c.in-Ok.verdict c.in-Ok.ensures.judges)
    (λ output. c.in-Ok.ensures.account.outputs output ∙ takes.account.outputs output) c.in-Ok-write_verdict.ensures.texts

pub returns-in-Ok-write_verdict-clause-inputs : goal.returns-in-Ok-write_verdict-clause-inputs
returns-in-Ok-write_verdict-clause-inputs g c = λ first takes.
    still_read (check_asks (check_terms c.args.words.now)).inputs first (g.D.Desk.seen c.judge_printed.new.desk)
    (g.D.Desk.seen c.write_verdict.new.desk) (read_then takes c.in-Ok.ensures.account) c.in-Ok-write_verdict.ensures.only.inputs

pub returns-in-Ok-write_verdict-clause-calls : goal.returns-in-Ok-write_verdict-clause-calls
returns-in-Ok-write_verdict-clause-calls g c = then_calls c.in-Ok.ensures.account.calls
    (c.in-Ok-write_verdict.ensures.calls (check_asks (check_terms c.args.words.now)) refl)

pub returns-in-Err-write_verdict-clause-cause : goal.returns-in-Err-write_verdict-clause-cause
returns-in-Err-write_verdict-clause-cause g c = λ first takes.
    let terms = check_terms c.args.words.now in
    let late = g.D.Desk.seen c.judge_printed.new.desk in
    let new = g.D.Desk.seen c.write_verdict.new.desk in
    subst (CheckHasCause terms first new) (sym c.from-in-Err-write_verdict.ensures)
    (line_stopped terms first late new c.in-Ok.verdict (verdict_taken takes c.in-Ok.verdict c.in-Ok.ensures.judges)
    (λ output. c.in-Ok.ensures.account.outputs output ∙ takes.account.outputs output)
    c.in-Err-write_verdict.error c.in-Err-write_verdict.ensures.texts)

pub returns-in-Err-write_verdict-clause-inputs : goal.returns-in-Err-write_verdict-clause-inputs
returns-in-Err-write_verdict-clause-inputs g c = λ first takes.
    still_read (check_asks (check_terms c.args.words.now)).inputs first (g.D.Desk.seen c.judge_printed.new.desk)
    (g.D.Desk.seen c.write_verdict.new.desk) (read_then takes c.in-Ok.ensures.account) c.in-Err-write_verdict.ensures.only.inputs

pub returns-in-Err-write_verdict-clause-calls : goal.returns-in-Err-write_verdict-clause-calls
returns-in-Err-write_verdict-clause-calls g c =
    let asks = check_asks (check_terms c.args.words.now) in
    subst (λ (outcome : Outcome). EndsAs asks outcome (g.D.Desk.seen c.args.desk.now).calls (g.D.Desk.seen c.write_verdict.new.desk).calls)
    (sym c.from-in-Err-write_verdict.ensures) (unwritten_ends _ c.in-Err-write_verdict.error _ _ (then_ends (failed_output c.in-Err-write_verdict.error) _
    c.in-Ok.ensures.account.calls (c.in-Err-write_verdict.ensures.calls asks refl)))
