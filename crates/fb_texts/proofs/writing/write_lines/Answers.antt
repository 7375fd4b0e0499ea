use Rattle.std.proofs.Common.{◌≡◌, ◌∙◌, ap, arith, length, sym, refl, Some}
use Rattle.std.specs.Prelude.{slice_get}
use Rattle.fb_report.specs.Printed.{IsLine, is_in_place}
use Rattle.fb_report.proofs.InPlace.{all_in_place, one_line_more}
use Rattle.fb_texts.proofs.Pieces.{next_line}
use Rattle.fb_texts.proofs.writing.write_lines.Goals as goal

pub loop-index-preserved : goal.loop-index-preserved
loop-index-preserved g c =
    let lines = g.L.Lines.lines c.args.lines.now in
    let line : slice_get lines c.loop-index.index ≡ Some c.as_slice.result.now = c.in_ok-line.ensures.value
    ∙ ap Some (sym c.as_slice.ensures.value) in
    record {
      written = next_line c.args.which c.args.name.now (g.D.Desk.seen c.args.desk.now) (g.D.Desk.seen c.write_more.new.desk)
          lines c.loop-index.index c.as_slice.result.now line
          (c.in_ok-write_more.ensures.written (g.D.Desk.seen c.args.desk.now) c.args.name.now _ c.loop-index.invariant.written);
      in_place = λ can. one_line_more (λ index line. IsLine (is_in_place (g.L.Lines.grammar c.args.lines.now) (length lines) index) line)
          lines c.loop-index.index c.in_ok-line.line.items c.in_ok-line.ensures.value
          (c.loop-index.invariant.in_place can) (c.in_ok-line.ensures.form can);
    }

pub returns-clause-read : goal.returns-clause-read
returns-clause-read g c = λ can.
    let lines = g.L.Lines.lines c.args.lines.now in
    all_in_place (g.L.Lines.grammar c.args.lines.now) lines c.loop-index.index (length lines) refl
    (omega (arith, c.count-index-end.ensures.value, c.count-index-end.ensures.ends))
    (omega (arith, c.count-index-end.ensures.value, c.loop-index-test.false)) (c.loop-index.invariant.in_place can)
