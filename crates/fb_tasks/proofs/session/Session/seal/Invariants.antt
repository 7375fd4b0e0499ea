use Rattle.fb_tasks.proofs.Words.{◌≡◌, ℕ, take, true, Shape, held_at, Past, view, IsSealed, HoldsBlocks}
use Rattle.fb_tasks.proofs.Sealed.{dropped}
use Rattle.fb_tasks.proofs.session.Session.seal.Given as goal

-- the sectors of the first aborted blocks were dropped
abbrev pub invariant-loop-number : goal.invariant-loop-number
invariant-loop-number l = record {
  sealed : IsSealed true l.fn.self l.self;
  image : (disk : Shape) (past : Past) → HoldsBlocks disk past l.wanted → (lbn : ℕ)
      → held_at l.self.image lbn ≡ dropped (view past l.task) lbn (held_at l.fn.self.image lbn) (take l.number (view past l.task).blocks);
}
