use Rattle.std.proofs.Common.{arith}
use Rattle.fb_texts.proofs.Counted.{spill_counted}
use Rattle.fb_bgwrite.specs.Text.{spill_lines}
use Rattle.fb_texts.proofs.LineEnds.{line_ends, spill_end}
use Rattle.fb_texts.proofs.spill_text.SpillLinesLines.line.Goals as goal

pub spill_piece-requires-clause-line : goal.spill_piece-requires-clause-line
spill_piece-requires-clause-line c = let lines = c.args.self.now in
    omega (arith, c.requires.inside, spill_counted lines.sector_bytes lines.bytes lines.spill.now)

pub returns-clause-ends : goal.returns-clause-ends
returns-clause-ends c =
    let lines = c.args.self.now in
    line_ends c.spill_piece.result (spill_lines lines.sector_bytes lines.bytes lines.spill.now) c.args.index
    (spill_end lines.sector_bytes lines.bytes lines.spill.now) c.spill_piece.ensures
