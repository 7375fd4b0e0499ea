use Rattle.fb_top.proofs.Words.{◌∙◌, Global, Ok, ap, map, subst, sym, string_bytes, terms, AreReadAs, EndsAs}
use Rattle.fb_streams.specs.Called.{asked_by}
use Rattle.fb_top.proofs.Together.{of_command}
use Rattle.fb_top.proofs.command.answer_words.Goals as goal

pub run_replay-requires-clause-together : goal.run_replay-requires-clause-together
run_replay-requires-clause-together g c = of_command (map (string_bytes {Z = Global}) c.args.words.now) c.in-Ok-Replay.field-0
    c.in-Ok-Replay.words c.in-Ok-Replay.ensures.answer c.in-Ok-Replay.field-0-is

pub returns-in-Ok-Replay-clause-calls : goal.returns-in-Ok-Replay-clause-calls
returns-in-Ok-Replay-clause-calls g c =
    let given = c.in-Ok-Replay.ensures.answer ∙ ap (λ command. Ok (terms command)) c.in-Ok-Replay.field-0-is in
    subst (λ reading. EndsAs (asked_by reading) c.run_replay.result (g.D.Desk.seen c.args.desk.now).calls
    (g.D.Desk.seen c.run_replay.new.desk).calls) (sym given) c.run_replay.ensures.calls

pub returns-in-Ok-Replay-clause-inputs : goal.returns-in-Ok-Replay-clause-inputs
returns-in-Ok-Replay-clause-inputs g c =
    let given = c.in-Ok-Replay.ensures.answer ∙ ap (λ command. Ok (terms command)) c.in-Ok-Replay.field-0-is in
    subst (λ reading. AreReadAs (asked_by reading).inputs (g.D.Desk.seen c.args.desk.now) (g.D.Desk.seen c.run_replay.new.desk))
    (sym given) c.run_replay.ensures.inputs
