use Rattle.fb_top.proofs.Words.{sym, subst, replay_terms, replay_asks, then_ends, still_read, HasCause, EndsAs, failed_at, Outcome}
use Rattle.fb_top.proofs.Ends.{replay_stopped, unread_ends}
use Rattle.fb_top.proofs.replay.run_replay.Goals as goal

pub returns-in-Ok-clause-cause : goal.returns-in-Ok-clause-cause
returns-in-Ok-clause-cause g c = c.replay_and_write.ensures.cause (g.D.Desk.seen c.args.desk.now) (record {
  accepts = c.in-Ok.ensures.accepts;
  accepts_puts = c.in-Ok.ensures.puts;
  sound = c.in-Ok.ensures.sound;
  fit = c.in-Ok.ensures.fit;
  account = c.in-Ok.ensures.account;
})

pub returns-in-Err-clause-cause : goal.returns-in-Err-clause-cause
returns-in-Err-clause-cause g c =
    let terms = replay_terms c.args.words.now in
    let old = g.D.Desk.seen c.args.desk.now in
    let new = g.D.Desk.seen c.read_replay_inputs.new.desk in
    subst (HasCause terms old new) (sym c.from.ensures) (replay_stopped terms old new c.in-Err.error c.in-Err.ensures.cause)

pub returns-in-Ok-clause-inputs : goal.returns-in-Ok-clause-inputs
returns-in-Ok-clause-inputs g c =
    still_read (replay_asks (replay_terms c.args.words.now)).inputs (g.D.Desk.seen c.args.desk.now)
    (g.D.Desk.seen c.read_replay_inputs.new.desk) (g.D.Desk.seen c.replay_and_write.new.desk) c.in-Ok.ensures.account.inputs
    c.replay_and_write.ensures.inputs

pub returns-in-Ok-clause-calls : goal.returns-in-Ok-clause-calls
returns-in-Ok-clause-calls g c =
    then_ends (failed_at c.replay_and_write.result) _ c.in-Ok.ensures.account.calls c.replay_and_write.ensures.calls

pub returns-in-Err-clause-calls : goal.returns-in-Err-clause-calls
returns-in-Err-clause-calls g c =
    subst (λ (outcome : Outcome). EndsAs (replay_asks (replay_terms c.args.words.now)) outcome (g.D.Desk.seen c.args.desk.now).calls
    (g.D.Desk.seen c.read_replay_inputs.new.desk).calls) (sym c.from.ensures) (unread_ends _ c.in-Err.error _ _ c.in-Err.ensures.account.calls)
