use Rattle.fb_report.proofs.Words.{◌≡◌, ◌++◌, length, report_fields}
use Rattle.fb_report.proofs.splitting.fields_of.Given as goal

abbrev pub invariant-loop-field : goal.invariant-loop-field
invariant-loop-field l = l.fields ++ report_fields l.rest ≡ report_fields l.line

abbrev pub decreases-loop-field : goal.decreases-loop-field
decreases-loop-field l = length l.rest
