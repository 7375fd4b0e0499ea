use Rattle.std.proofs.Common.{◌≡◌, ◌<◌, ℕ, List, length, take, Some}
use Rattle.std.specs.Prelude.{slice_get}
use Rattle.fb_report.specs.Printed.{IsLine, is_in_place}
use Rattle.fb_texts.specs.Written.{joined}
use Rattle.fb_texts.specs.Writing.{HasWritten}
use Rattle.fb_texts.proofs.writing.write_lines.Given as goal

abbrev pub invariant-loop-index : goal.invariant-loop-index
invariant-loop-index g l =
    let lines = g.L.Lines.lines l.lines in
    record {
      written : HasWritten l.which l.name (joined (take l.index lines)) (g.D.Desk.seen l.fn.desk) (g.D.Desk.seen l.desk);
      in_place : g.L.Lines.can_be_read l.lines → (index : ℕ) (line : List ℕ) → index < l.index → slice_get lines index ≡ Some line
          → IsLine (is_in_place (g.L.Lines.grammar l.lines) (length lines) index) line;
    }
