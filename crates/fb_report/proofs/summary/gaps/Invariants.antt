use Rattle.fb_report.proofs.Words.{◌≡◌, ◌≤◌, ◌+◌, drop, length, filter_map, gap_in}
use Rattle.fb_report.proofs.summary.gaps.Given as goal

abbrev pub invariant-loop-i : goal.invariant-loop-i
invariant-loop-i l = record {
  gaps : l.gaps + length (filter_map gap_in (drop l.i l.rows)) ≡ length (filter_map gap_in l.rows);
  few : l.gaps ≤ l.i;
}
