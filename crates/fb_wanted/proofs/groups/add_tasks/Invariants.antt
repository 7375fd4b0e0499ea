use Rattle.std.proofs.Common.{◌≡◌, ℕ, [], length, get_or}
use Rattle.fb_wanted.proofs.groups.add_tasks.Given as goal

-- tasks are added with no group, up to the one
abbrev pub invariant-loop : goal.invariant-loop
invariant-loop l = ((k : ℕ) → get_or l.tasks.items k [] ≡ get_or l.initial.tasks.items k [])
    × (length l.tasks.items ≡ l.counter)
