use Rattle.std.proofs.Common.{arith}
use Rattle.fb_texts.proofs.Sections.{array_counted}
use Rattle.fb_texts.proofs.array_text.ArrayLinesLines.count.Goals as goal

pub returns-clause-value : goal.returns-clause-value
returns-clause-value c = let lines = c.args.self.now in
    omega (arith, c.section_lines.ensures.lines lines.sector_bytes lines.bytes, array_counted lines.sector_bytes lines.bytes lines.runs.now)
