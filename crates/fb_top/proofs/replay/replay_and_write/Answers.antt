use Rattle.fb_top.proofs.Words.{◌≡◌, ◌∙◌, Option, length, inl, sym, subst, SpillRun, Calls, IsAccepted, IsFull, Inputs, replay_terms}
use Rattle.fb_top.proofs.Words.{Outcome, HasCause, files_of, inputs_of_files, key_of, CanBeTold, StopsTexts, WritesAll, replay_texts}
use Rattle.fb_top.proofs.Words.{no_call, EndsAs, replay_asks}
use Rattle.fb_script.specs.Allowed.{tasks}
use Rattle.fb_top.proofs.Spills.{all_written, at_replay, replay_ran_out}
use Rattle.fb_top.proofs.Ends.{done_ends, unwritten_ends}
use Rattle.fb_top.proofs.replay.replay_and_write.Given as given
use Rattle.fb_top.proofs.replay.replay_and_write.Goals as goal
use Rattle.fb_top.proofs.replay.replay_and_write.Goals.{In-Ok}

-- the run is the full run of the files
full : (g : given.Over) (c : In-Ok g)
    → IsFull (inputs_of_files (files_of c.args.read.now.files) (key_of c.args.words.now.policy) c.args.words.now.until) c.in-Ok.run'
full g c =
    subst (λ (inputs : Inputs). IsFull inputs c.in-Ok.run') (c.run_inputs.ensures.inputs (key_of c.args.words.now.policy))
    c.in-Ok.ensures.full

pub replay_by-requires : goal.replay_by-requires
replay_by-requires g c = record {
  fit = subst IsAccepted (sym (c.run_inputs.ensures.inputs (key_of c.args.words.now.policy))) c.requires.fit;
  names = subst (λ (calls : Calls). length calls.names ≡ length (tasks calls.calls.items)) (sym c.run_inputs.ensures.calls)
      c.requires.names;
}

pub returns-in-Err-clause-cause : goal.returns-in-Err-clause-cause
returns-in-Err-clause-cause g c = λ first takes. inl (replay_ran_out (replay_terms c.args.words.now) _ _ first _ takes)

pub spill_given-requires-clause-full : goal.spill_given-requires-clause-full
spill_given-requires-clause-full g c = record {
  key = key_of c.args.words.now.policy;
  until = c.args.words.now.until;
  full = full g (goal.at.spill_given-requires-clause-full g c).In-Ok;
}

pub returns-in-Err-spill_given-clause-cause : goal.returns-in-Err-spill_given-clause-cause
returns-in-Err-spill_given-clause-cause g c = λ first takes. inl (replay_ran_out (replay_terms c.args.words.now) _ _ first _ takes)

pub write_replay-requires-clause-told : goal.write_replay-requires-clause-told
write_replay-requires-clause-told g c =
    subst (λ (calls : Calls). CanBeTold calls.names c.in-Ok.run') c.run_inputs.ensures.calls c.in-Ok.ensures.told

pub returns-in-Err-write_replay-clause-cause : goal.returns-in-Err-write_replay-clause-cause
returns-in-Err-write_replay-clause-cause g c = λ first takes.
    let mid = g.D.Desk.seen c.args.desk.now in
    let new = g.D.Desk.seen c.write_replay.new.desk in
    let terms = replay_terms c.args.words.now in
    let files = files_of c.args.read.now.files in
    let run = c.in-Ok.run' in
    let is_full = full g (goal.at.returns-in-Err-write_replay-clause-cause g c).In-Ok in
    let error = c.in-Err-write_replay.error in
    subst (λ (outcome : Outcome). HasCause terms first new outcome) (sym c.from.ensures)
    (at_replay terms files _ first mid takes run is_full c.in-Ok-spill_given.spill new c.in-Ok-spill_given.ensures.writes error
    (subst (λ (s : Option SpillRun). StopsTexts (replay_texts terms files run s) mid new error) c.as_ref.ensures.value
    c.in-Err-write_replay.ensures.texts))

pub returns-in-Ok-write_replay-clause-cause : goal.returns-in-Ok-write_replay-clause-cause
returns-in-Ok-write_replay-clause-cause g c = λ first takes.
    let mid = g.D.Desk.seen c.args.desk.now in
    let new = g.D.Desk.seen c.write_replay.new.desk in
    let terms = replay_terms c.args.words.now in
    let files = files_of c.args.read.now.files in
    let run = c.in-Ok.run' in
    let is_full = full g (goal.at.returns-in-Ok-write_replay-clause-cause g c).In-Ok in
    subst (λ (outcome : Outcome). HasCause terms first new outcome) (sym c.outcome_of.ensures)
    (all_written terms files _ first mid takes run is_full c.in-Ok-spill_given.spill new c.in-Ok-spill_given.ensures.writes
    (c.in-Ok-spill_given.ensures.named ∙ c.requires.named)
    (subst (λ (s : Option SpillRun). WritesAll (replay_texts terms files run s) mid new) c.as_ref.ensures.value
    c.in-Ok-write_replay.ensures.texts)
    c.in-Ok-write_replay.ensures.read)

pub returns-in-Err-clause-calls : goal.returns-in-Err-clause-calls
returns-in-Err-clause-calls g c = no_call

pub returns-in-Err-spill_given-clause-calls : goal.returns-in-Err-spill_given-clause-calls
returns-in-Err-spill_given-clause-calls g c = no_call

pub returns-in-Ok-write_replay-clause-calls : goal.returns-in-Ok-write_replay-clause-calls
returns-in-Ok-write_replay-clause-calls g c =
    let asks = replay_asks (replay_terms c.args.words.now) in
    subst (λ (outcome : Outcome). EndsAs asks outcome (g.D.Desk.seen c.args.desk.now).calls (g.D.Desk.seen c.write_replay.new.desk).calls)
    (sym c.outcome_of.ensures) (done_ends asks c.in-Ok.run' c.in-Ok-spill_given.spill c.in-Ok-write_replay.ensures.calls)

pub returns-in-Err-write_replay-clause-calls : goal.returns-in-Err-write_replay-clause-calls
returns-in-Err-write_replay-clause-calls g c =
    let asks = replay_asks (replay_terms c.args.words.now) in
    let old = (g.D.Desk.seen c.args.desk.now).calls in
    let new = (g.D.Desk.seen c.write_replay.new.desk).calls in
    subst (λ (outcome : Outcome). EndsAs asks outcome old new) (sym c.from.ensures)
    (unwritten_ends asks c.in-Err-write_replay.error old new c.in-Err-write_replay.ensures.calls)
