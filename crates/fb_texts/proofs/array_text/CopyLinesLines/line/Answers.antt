use Rattle.fb_mirror.specs.Copy.{copy_lines}
use Rattle.fb_texts.proofs.LineEnds.{copy_end, line_ends}
use Rattle.fb_texts.proofs.array_text.CopyLinesLines.line.Goals as goal

pub returns-clause-ends : goal.returns-clause-ends
returns-clause-ends c =
    let lines = c.args.self.now in
    line_ends c.copy_piece.result (copy_lines lines.copy.now lines.sectors) c.args.index
    (copy_end lines.copy.now lines.sectors) c.copy_piece.ensures
