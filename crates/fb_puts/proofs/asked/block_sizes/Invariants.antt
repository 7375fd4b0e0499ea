use Rattle.fb_puts.proofs.Words.{◌≡◌, map, take, tasks}
use Rattle.fb_puts.proofs.asked.block_sizes.Given as goal

abbrev pub invariant-loop-call : goal.invariant-loop-call
invariant-loop-call l = l.sizes.items ≡ map (λ terms. terms.block) (tasks (take l.call-index l.call-items))
