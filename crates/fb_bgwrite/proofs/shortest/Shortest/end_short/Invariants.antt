use Rattle.fb_bgwrite.proofs.Words.{◌≤◌, AreAbove}
use Rattle.fb_bgwrite.proofs.shortest.Shortest.end_short.Given as goal

-- the bounds from here on are greater
abbrev pub invariant-loop-next : goal.invariant-loop-next
invariant-loop-next l = record {
  after : l.from ≤ l.next;
  within : l.next ≤ l.end;
  each : AreAbove l.self l.most l.next l.end;
}

abbrev pub decreases-loop-next : goal.decreases-loop-next
decreases-loop-next l = l.next
