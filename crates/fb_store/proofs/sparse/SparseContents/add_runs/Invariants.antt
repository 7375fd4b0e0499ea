use Rattle.fb_store.proofs.Words.{◌≡◌, ◌≤◌, ◌+◌, ◌-◌, ◌++◌, range_with_len, held_at, held_in, runs_of, sectors_of}
use Rattle.fb_store.proofs.sparse.SparseContents.add_runs.Given as goal

abbrev pub invariant-loop-lbn : goal.invariant-loop-lbn
invariant-loop-lbn l = record {
  bounds : l.lbn ≤ l.end;
  from : l.first ≤ l.lbn;
  stop : l.end ≡ l.first + l.count;
  so_far : l.runs ≡ runs_of (sectors_of l.fn.runs ++ held_in (held_at l.self) (range_with_len l.first (l.lbn - l.first)));
}

abbrev pub decreases-loop-lbn : goal.decreases-loop-lbn
decreases-loop-lbn l = l.end - l.lbn
