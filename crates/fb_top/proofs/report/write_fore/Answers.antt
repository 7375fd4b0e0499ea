use Rattle.fb_top.proofs.Words.{refl, replay_terms, replay_asks, summary_text, text_ends}
use Rattle.fb_top.proofs.LineEnds.{summary_ends}
use Rattle.fb_top.proofs.report.write_fore.Goals as goal

pub write_made-requires-clause-line : goal.write_made-requires-clause-line
write_made-requires-clause-line g c = let run = c.args.run.now in
    text_ends c.summary_text.result (summary_text run) (summary_ends run) c.summary_text.ensures

pub returns-then-words-clause-calls : goal.returns-then-words-clause-calls
returns-then-words-clause-calls g c = c.write_made.ensures.calls (replay_asks (replay_terms c.args.words.now)) refl

pub returns-clause-calls : goal.returns-clause-calls
returns-clause-calls g c = c.write_lines.ensures.calls (replay_asks (replay_terms c.args.words.now)) refl
