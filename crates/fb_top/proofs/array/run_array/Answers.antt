use Rattle.fb_top.proofs.Words.{sym, subst, array_terms, array_asks, then_ends, array_of, still_read, ArrayHasCause, EndsAs, failed_at}
use Rattle.fb_top.proofs.Words.{Outcome}
use Rattle.fb_inputs.proofs.Values.{each_counted}
use Rattle.fb_top.proofs.Arrayed.{array_stopped}
use Rattle.fb_top.proofs.Ends.{unread_ends}
use Rattle.fb_top.proofs.array.run_array.Goals as goal

pub replay_array-requires-clause-count : goal.replay_array-requires-clause-count
replay_array-requires-clause-count g c =
    each_counted _ (array_terms c.args.words.now).devices (array_of c.in-Ok.files).traces c.in-Ok.ensures.accepts.traces.spells

pub returns-in-Ok-clause-cause : goal.returns-in-Ok-clause-cause
returns-in-Ok-clause-cause g c = c.replay_array.ensures.cause (g.D.Desk.seen c.args.desk.now)
    (record { accepts = c.in-Ok.ensures.accepts; sound = c.in-Ok.ensures.sound; account = c.in-Ok.ensures.account })

pub returns-in-Err-clause-cause : goal.returns-in-Err-clause-cause
returns-in-Err-clause-cause g c =
    let terms = array_terms c.args.words.now in
    let old = g.D.Desk.seen c.args.desk.now in
    let new = g.D.Desk.seen c.read_array.new.desk in
    subst (ArrayHasCause terms old new) (sym c.from.ensures) (array_stopped terms old new c.in-Err.error c.in-Err.ensures.cause)

pub returns-in-Ok-clause-inputs : goal.returns-in-Ok-clause-inputs
returns-in-Ok-clause-inputs g c =
    still_read (array_asks (array_terms c.args.words.now)).inputs (g.D.Desk.seen c.args.desk.now)
    (g.D.Desk.seen c.read_array.new.desk) (g.D.Desk.seen c.replay_array.new.desk) c.in-Ok.ensures.account.inputs c.replay_array.ensures.inputs

pub returns-in-Ok-clause-calls : goal.returns-in-Ok-clause-calls
returns-in-Ok-clause-calls g c = then_ends (failed_at c.replay_array.result) _ c.in-Ok.ensures.account.calls c.replay_array.ensures.calls

pub returns-in-Err-clause-calls : goal.returns-in-Err-clause-calls
returns-in-Err-clause-calls g c =
    subst (λ (outcome : Outcome). EndsAs (array_asks (array_terms c.args.words.now)) outcome (g.D.Desk.seen c.args.desk.now).calls
    (g.D.Desk.seen c.read_array.new.desk).calls) (sym c.from.ensures) (unread_ends _ c.in-Err.error _ _ c.in-Err.ensures.account.calls)
