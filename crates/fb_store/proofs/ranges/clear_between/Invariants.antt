use Rattle.fb_store.proofs.Words.{◌≡◌, ◌-◌, ℕ, ◌<◌, ◌≤◌, nat_cmp, get, ContainsKey}
use Rattle.fb_store.proofs.ranges.clear_between.Given as goal

abbrev pub invariant-loop-begin : goal.invariant-loop-begin
invariant-loop-begin l = record {
  after : l.first < l.begin;
  within : l.begin ≤ l.end;
  inside : (begin : ℕ) → ContainsKey nat_cmp l.ranges begin → l.first < begin → l.begin ≤ begin;
  below : (begin : ℕ) → begin ≤ l.first → get nat_cmp l.ranges begin ≡ get nat_cmp l.fn.ranges begin;
  above : (begin : ℕ) → l.end ≤ begin → get nat_cmp l.ranges begin ≡ get nat_cmp l.fn.ranges begin;
}

abbrev pub decreases-loop-begin : goal.decreases-loop-begin
decreases-loop-begin l = l.end - l.begin
