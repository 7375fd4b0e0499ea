use Rattle.fb_report.proofs.Words.{◌≡◌, ◌≤◌, ◌+◌, ◌*◌, ◌^◌, drop, length, filter_map, fold, sum_by, delivery_in}
use Rattle.fb_report.proofs.summary.Delivered.of.Given as goal

abbrev pub invariant-loop-i : goal.invariant-loop-i
invariant-loop-i l = record {
  blocks : l.blocks + length (filter_map delivery_in (drop l.i l.rows)) ≡ length (filter_map delivery_in l.rows);
  sectors : fold (λ sum row. sum + row.block.count) l.sectors (filter_map delivery_in (drop l.i l.rows))
      ≡ sum_by (λ row. row.block.count) (filter_map delivery_in l.rows);
  bad : fold (λ sum row. sum + row.bad) l.bad (filter_map delivery_in (drop l.i l.rows))
      ≡ sum_by (λ row. row.bad) (filter_map delivery_in l.rows);
  few : l.blocks ≤ l.i;
  few_sectors : l.sectors ≤ l.i * 2 ^ 32;
  few_bad : l.bad ≤ l.i * 2 ^ 32;
}
