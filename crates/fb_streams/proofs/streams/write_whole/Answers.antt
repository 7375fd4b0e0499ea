use Rattle.std.proofs.Common.{arith, ap, refl, subst, sym, take, ◌∙◌}
use Rattle.std.proofs.lemmas.List.{take_rest}
use Rattle.fb_desk.specs.Calls.{behind}
use Rattle.fb_streams.specs.Called.{EndsLine}
use Rattle.fb_streams.proofs.Called.{one_call, then_calls}
use Rattle.fb_streams.proofs.Pieces.{output_on, rest_ends, written_more}
use Rattle.fb_streams.proofs.streams.write_whole.Goals as goal

pub loop-done-preserved : goal.loop-done-preserved
loop-done-preserved g c =
    let old = g.D.Desk.seen c.args.desk.now in
    let now = g.D.Desk.seen c.loop-done.desk in
    let next = g.D.Desk.seen c.write_some.new.self in
    let told = c.in_ok-done.ensures in
    let kept = c.loop-done.invariant in
    let line = rest_ends c.args.text.now c.loop-done.done (omega (arith, c.loop-done-test.true)) c.requires.lines in
    record {
      within = omega (arith, told.fits);
      only = output_on c.args.which old now next kept.only told.only;
      later = omega (arith, kept.later, told.cause.later);
      calls = λ asked given. then_calls (kept.calls asked given) (one_call asked _ now.calls next.calls told.call
          (record { asked_for = (given, subst EndsLine (sym (take_rest c.args.text.now c.loop-done.done)) line); succeeded = refl }));
      begun = told.begun;
      name = told.named ∙ kept.name;
      written = written_more (old.outputs c.args.which).written (now.outputs c.args.which).written
          (next.outputs c.args.which).written c.args.text.now c.loop-done.done c.in_ok-done.field-0 kept.written
          (told.written
          ∙ ap (λ r. behind (now.outputs c.args.which).written (take c.in_ok-done.field-0 r)) (take_rest c.args.text.now c.loop-done.done));
    }
