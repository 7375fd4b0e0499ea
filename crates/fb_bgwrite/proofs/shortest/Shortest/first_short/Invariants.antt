use Rattle.fb_bgwrite.proofs.Words.{◌-◌, ◌≤◌, AreAbove}
use Rattle.fb_bgwrite.proofs.shortest.Shortest.first_short.Given as goal

-- the bounds before this one are greater
abbrev pub invariant-loop-next : goal.invariant-loop-next
invariant-loop-next l = record {
  after : l.from ≤ l.next;
  within : l.next ≤ l.end;
  each : AreAbove l.self l.most l.from l.next;
}

abbrev pub decreases-loop-next : goal.decreases-loop-next
decreases-loop-next l = l.end - l.next
