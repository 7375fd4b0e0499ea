use Rattle.fb_store.proofs.Words.{◌≡◌, ◌≤◌, ◌+◌, ◌-◌, content_in, runs_of}
use Rattle.fb_store.proofs.Longest.{held}
use Rattle.fb_store.proofs.store.Store.runs.Given as goal

abbrev pub invariant-loop-lbn : goal.invariant-loop-lbn
invariant-loop-lbn l = record {
  bounds : l.lbn ≤ l.end;
  from : l.first ≤ l.lbn;
  stop : l.end ≡ l.first + l.count;
  so_far : l.runs ≡ runs_of (held (content_in l.self) l.first (l.lbn - l.first));
}

abbrev pub decreases-loop-lbn : goal.decreases-loop-lbn
decreases-loop-lbn l = l.end - l.lbn
