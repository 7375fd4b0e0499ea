use Rattle.fb_geometry.proofs.Words.{get_or, length, positions, ℕ, ◌+◌, ◌-◌, ◌<◌, ◌≡◌, ◌≤◌}
use Rattle.fb_geometry.proofs.marks.slipped.Given as goal

abbrev pub invariant-loop-low : goal.invariant-loop-low
invariant-loop-low l = record {
  order : l.low ≤ l.high;
  upto : l.high ≤ length l.marks;
  before : (i : ℕ) → i + 1 ≡ l.low → get_or (positions l.marks) i 0 ≤ l.number + i;
  behind : l.high < length l.marks → l.number + l.high < get_or (positions l.marks) l.high 0;
}

abbrev pub decreases-loop-low : goal.decreases-loop-low
decreases-loop-low l = l.high - l.low
