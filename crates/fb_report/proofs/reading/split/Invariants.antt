use Rattle.fb_report.proofs.Words.{◌≡◌, length, ◌==◌, slice_split, grammar_of, lines_behind, report_of}
use Rattle.fb_report.proofs.reading.split.Given as goal

abbrev pub invariant-loop-line : goal.invariant-loop-line
invariant-loop-line l =
    lines_behind (grammar_of l.report) l.lines (slice_split (λ byte. byte == 10) l.rest) ≡ report_of (grammar_of l.report) l.text

abbrev pub decreases-loop-line : goal.decreases-loop-line
decreases-loop-line l = length l.rest
