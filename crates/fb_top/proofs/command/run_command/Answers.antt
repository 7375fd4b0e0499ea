use Rattle.fb_top.proofs.Words.{Global, map, string_bytes, command_of}
use Rattle.fb_top.proofs.Completeness.{complete}
use Rattle.fb_top.proofs.command.run_command.Goals as goal

pub returns : goal.returns
returns g c =
    let reading = command_of (map (string_bytes {Z = Global}) c.args.words.now) in
    let told = c.answer_words-outcome.ensures in
    let between = g.D.Desk.seen c.answer_words-outcome.new.desk in
    record {
      between = between;
      answers = told.answers;
      complete = complete reading (g.D.Desk.seen c.args.desk.now) between c.answer_words-outcome.result told.answers;
      inputs = told.inputs;
      calls = told.calls;
      no_note = told.no_note;
      noted = c.write_note.ensures;
    }
