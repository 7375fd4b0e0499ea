use Rattle.fb_report.proofs.Words.{◌≡◌, ◌≤◌, ◌+◌, cond, drop, length, count_by, filter_map, fold, task_in}
use Rattle.fb_report.proofs.summary.Tasks.of.Given as goal

abbrev pub invariant-loop-i : goal.invariant-loop-i
invariant-loop-i l = record {
  complete : fold (λ sum row. sum + cond row.complete 1 0) l.complete (filter_map task_in (drop l.i l.rows))
      ≡ count_by (λ row. row.complete) (filter_map task_in l.rows);
  all : l.all + length (filter_map task_in (drop l.i l.rows)) ≡ length (filter_map task_in l.rows);
  few_complete : l.complete ≤ l.i;
  few : l.all ≤ l.i;
}
