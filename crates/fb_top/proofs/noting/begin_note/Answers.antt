use Rattle.fb_top.proofs.Words.{◌≢◌, ◌∙◌, [], List, ℕ, inl, refl, rules, subst, sym, true, codes, begins, Note, one_call, EndsLine}
use Rattle.fb_top.proofs.Words.{asks_note, note_of}
use Rattle.fb_streams.proofs.Pieces.{output_on}
use Rattle.fb_texts.proofs.Pieces.{same_name}
use Rattle.fb_top.proofs.LineEnds.{note_ends}
use Rattle.fb_top.proofs.Noted.{note_begun, note_made, note_written, rose_on}
use Rattle.fb_top.proofs.noting.begin_note.Goals as goal

pub write_whole-requires-clause-lines : goal.write_whole-requires-clause-lines
write_whole-requires-clause-lines g c =
    subst (λ (text : List ℕ). text ≢ [] → EndsLine text) (sym (c.as_slice.ensures.value ∙ c.in-Ok-note_text.ensures))
    (note_ends c.args.outcome.now)

pub returns : goal.returns
returns g c =
    let first = g.D.Desk.seen c.args.desk.now in
    let begun = g.D.Desk.seen c.begin_output.new.self in
    let old = first.outputs Note in
    let now = begun.outputs Note in
    let new = (g.D.Desk.seen c.write_whole.new.desk).outputs Note in
    let told = c.write_whole.ensures in
    record {
      only = output_on Note first begun (g.D.Desk.seen c.write_whole.new.desk) c.in-Ok.ensures.only told.only;
      calls = note_made c.write_whole.result _
          (one_call asks_note (begins Note (codes "-") true) first.calls begun.calls c.in-Ok.ensures.call
          (record { asked_for = refl; succeeded = refl }))
          (told.calls asks_note refl);
      tells = record {
        begun = inl told.begun;
        name = λ begun. same_name (codes "-") now.name new.name told.name c.in-Ok.ensures.named;
        written = λ begun. note_written c.write_whole.result old now new c.as_slice.result.now
            (note_of c.args.outcome.now) c.in-Ok.ensures.empty (c.as_slice.ensures.value ∙ c.in-Ok-note_text.ensures) told.whole told.front
            (rose_on c.write_whole.result old.faults now.faults new.faults c.in-Ok.ensures.cause.later told.cause.failed);
      };
    }

pub returns-in_default : goal.returns-in_default
returns-in_default g c = record {
  only = c.begin_output.ensures.only;
  calls = note_begun c.begin_output.result (g.D.Desk.seen c.args.desk.now).calls
      (g.D.Desk.seen c.begin_output.new.self).calls c.begin_output.ensures.call;
  tells = search rules;
}

pub returns-in_default-note_text : goal.returns-in_default-note_text
returns-in_default-note_text g c = record {
  only = c.begin_output.ensures.only;
  calls = note_begun c.begin_output.result (g.D.Desk.seen c.args.desk.now).calls
      (g.D.Desk.seen c.begin_output.new.self).calls c.begin_output.ensures.call;
  tells = search rules;
}
