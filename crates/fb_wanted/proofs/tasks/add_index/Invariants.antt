use Rattle.fb_wanted.proofs.Words.{◌≡◌, ℕ, length, get_or, no_blocks}
use Rattle.fb_wanted.proofs.tasks.add_index.Given as goal

-- only tasks with no block are added, up to the task's
abbrev pub invariant-loop : goal.invariant-loop
invariant-loop l = ((k : ℕ) → get_or l.tasks.items k no_blocks ≡ get_or l.initial.tasks.items k no_blocks)
    × (length l.tasks.items ≡ l.counter)
