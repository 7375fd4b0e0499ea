use Rattle.fb_report.proofs.Words.{◌≡◌, take}
use Rattle.fb_report.proofs.text_lines.TextLines.copied.Given as goal

abbrev pub invariant-loop-i : goal.invariant-loop-i
invariant-loop-i l = l.lines ≡ take l.i l.self
