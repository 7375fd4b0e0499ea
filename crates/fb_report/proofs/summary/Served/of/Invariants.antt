use Rattle.fb_report.proofs.Words.{◌≡◌, ◌≤◌, ◌+◌, ◌-◌, ◌*◌, ◌^◌, max, map, drop, fold, sum_by}
use Rattle.fb_report.proofs.summary.Served.of.Given as goal

abbrev pub invariant-loop-i : goal.invariant-loop-i
invariant-loop-i l = record {
  sectors : fold (λ sum row. sum + row.request.count) l.sectors (drop l.i l.rows) ≡ sum_by (λ row. row.request.count) l.rows;
  finish : fold max l.finish (map (λ row. row.finish) (drop l.i l.rows)) ≡ fold max 0 (map (λ row. row.finish) l.rows);
  response : fold (λ sum row. sum + (row.finish - row.request.arrival)) l.response (drop l.i l.rows)
      ≡ sum_by (λ row. row.finish - row.request.arrival) l.rows;
  few_sectors : l.sectors ≤ l.i * 2 ^ 32;
  short : l.response ≤ l.i * 2 ^ 64;
}
