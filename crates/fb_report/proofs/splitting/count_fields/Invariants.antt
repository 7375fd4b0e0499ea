use Rattle.fb_report.proofs.Words.{◌≡◌, ◌+◌, ◌≤◌, drop, length, report_fields}
use Rattle.fb_report.proofs.splitting.count_fields.Given as goal

abbrev pub invariant-loop-byte : goal.invariant-loop-byte
invariant-loop-byte l = record {
  few : l.spaces ≤ l.byte-index;
  rest : l.spaces + length (report_fields (drop l.byte-index l.line)) ≡ length (report_fields l.line);
}
