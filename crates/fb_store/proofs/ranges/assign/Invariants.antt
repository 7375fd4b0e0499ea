use Rattle.fb_store.proofs.Words.{◌≡◌, ℕ, ◌<◌, ◌≤◌, ◌-◌, Some, nat_cmp, get, ContainsKey}
use Rattle.std.proofs.Common.{max}
use Rattle.fb_store.proofs.ranges.assign.Given as goal

abbrev pub invariant-loop-begin : goal.invariant-loop-begin
invariant-loop-begin l = record {
  from : l.first ≤ l.begin;
  within : l.begin ≤ max l.first l.end;
  changed : (begin : ℕ) → l.first ≤ begin → begin < l.begin → ContainsKey nat_cmp l.ranges begin
      → get nat_cmp l.ranges begin ≡ Some (Some l.content);
  below : (begin : ℕ) → begin < l.first → get nat_cmp l.ranges begin ≡ get nat_cmp l.fn.ranges begin;
  above : (begin : ℕ) → l.begin ≤ begin → get nat_cmp l.ranges begin ≡ get nat_cmp l.fn.ranges begin;
  keeps : (begin : ℕ) → ContainsKey nat_cmp l.fn.ranges begin → ContainsKey nat_cmp l.ranges begin;
}

abbrev pub decreases-loop-begin : goal.decreases-loop-begin
decreases-loop-begin l = l.end - l.begin
