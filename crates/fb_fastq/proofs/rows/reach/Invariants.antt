use Rattle.fb_fastq.proofs.Words.{◌≡◌, ℕ, ◌+◌, ◌-◌, length, BTreeSet, all_of_rows, AreRows, AreOccupied}
use Rattle.fb_fastq.proofs.rows.reach.Given as goal

abbrev pub invariant-loop-alloc : goal.invariant-loop-alloc
invariant-loop-alloc l = record {
  same : all_of_rows l.rows.items ≡ all_of_rows l.fn.rows.items;
  rows : AreRows 0 l.fn.rows.items → AreRows 0 l.rows.items;
  occupied : (occupied : BTreeSet ℕ) → AreOccupied occupied l.fn.rows.items → AreOccupied occupied l.rows.items;
}

abbrev pub decreases-loop-alloc : goal.decreases-loop-alloc
decreases-loop-alloc l = l.number + 1 - length l.rows.items
