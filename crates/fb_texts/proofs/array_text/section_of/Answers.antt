use Rattle.std.proofs.Common.{◌≡◌, arith, subst}
use Rattle.std.specs.Prelude.{slice_get}
use Rattle.fb_units.proofs.Lists.{one_element}
use Rattle.fb_rows.specs.declared.run.Run.{Run}
use Rattle.fb_texts.specs.Sections.{section, sections}
use Rattle.fb_texts.proofs.Sections.{line_here, line_later, one_counted}
use Rattle.fb_texts.proofs.array_text.section_of.Goals as goal

pub returns-then-rest-lines-clause-same : goal.returns-then-rest-lines-clause-same
returns-then-rest-lines-clause-same c = λ size bytes run at.
    let runs = c.args.runs.now in
    let loop = c.loop-device in
    subst (λ (r : Run). slice_get (sections size bytes 0 runs) c.args.index ≡ slice_get (section size bytes loop.device r) loop.rest)
    (one_element (slice_get runs loop.device) c.get.result.now run c.get.ensures at)
    (line_here size bytes runs loop.device c.get.result.now c.args.index loop.rest c.get.ensures
    (omega (arith, c.fore_pieces-lines.ensures.value, c.if-rest-lines.true)) (loop.invariant.same size bytes))

pub loop-device-preserved : goal.loop-device-preserved
loop-device-preserved c =
    let runs = c.args.runs.now in
    let loop = c.loop-device in
    let run = c.get.result.now in
    let lines = c.fore_pieces-lines.ensures.value in
    record {
      same = λ size bytes. line_later size bytes runs loop.device run c.args.index loop.rest _ c.get.ensures
          (omega (arith, lines, c.if-rest-lines.false)) (loop.invariant.same size bytes);
      counted = λ size bytes. omega (
        arith,
        lines,
        c.if-rest-lines.false,
        one_counted size bytes runs loop.device run c.get.ensures,
        loop.invariant.counted size bytes,
      );
    }
