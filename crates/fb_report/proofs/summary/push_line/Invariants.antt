use Rattle.fb_report.proofs.Words.{◌≡◌, map, drop, decimal, with_fields}
use Rattle.fb_report.proofs.summary.push_line.Given as goal

abbrev pub invariant-loop-figure : goal.invariant-loop-figure
invariant-loop-figure l = with_fields l.line (map decimal (drop l.figure-index l.figures)) ≡ with_fields l.name (map decimal l.figures)
