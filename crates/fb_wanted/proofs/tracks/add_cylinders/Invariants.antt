use Rattle.std.proofs.Common.{◌≡◌, ◌≤◌, ◌<◌, ℕ, [], length, get_or}
use Rattle.fb_wanted.proofs.tracks.add_cylinders.Given as goal

-- cylinders are added with no block, up to the one
abbrev pub invariant-loop : goal.invariant-loop
invariant-loop l = ((c : ℕ) → get_or l.cylinders.items c [] ≡ get_or l.initial.cylinders.items c [])
    × (length l.cylinders.items ≡ l.counter)
    × ((n : ℕ) → length l.initial.cylinders.items ≤ n → l.cylinder < n → length l.cylinders.items ≤ n)
