use Rattle.fb_decide.proofs.Words.{◌≡◌, ◌≤◌, ◌-◌, length, Past, Tells, IsCalled}
use Rattle.fb_decide.proofs.Calling.{HasTaken}
use Rattle.fb_decide.proofs.background.Background.apply_calls.Given as goal

-- the calls so far have been taken
abbrev pub invariant-loop-next : goal.invariant-loop-next
invariant-loop-next l = record {
  taken : (past : Past) → IsCalled l.disk.map l.calls.calls.items past l.fn.next → Tells l.disk.map past l.fn.self.sessions l.fn.self.blocks
      → HasTaken l.disk.map l.calls.calls.items past l.now l.next l.self.sessions l.self.blocks;
  within : l.next ≤ length l.calls.calls.items;
  rows : l.self.rows ≡ l.fn.self.rows;
}

abbrev pub decreases-loop-next : goal.decreases-loop-next
decreases-loop-next l = length l.calls.calls.items - l.next
