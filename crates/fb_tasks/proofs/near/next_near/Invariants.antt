use Rattle.std.proofs.Common.{◌≡◌, ℕ, ◌<◌, ◌≤◌, false}
use Rattle.std.specs.BTreeSet.{contains}
use Rattle.fb_tasks.specs.Nearby.{pair_cmp}
use Rattle.fb_tasks.proofs.near.next_near.Given as goal

-- no task before the least one is noted in the chunks so far
abbrev pub invariant-loop-chunk : goal.invariant-loop-chunk
invariant-loop-chunk l = record {
  order : (l.fn.from ≤ l.least) × (l.least ≤ l.fn.end);
  none : (s k : ℕ) → l.fn.chunks.first ≤ s → s < l.chunk → l.fn.from ≤ k → k < l.least → contains pair_cmp l.near (s, k) ≡ false;
}
