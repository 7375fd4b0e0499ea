use Rattle.std.proofs.Common.{◌≡◌, ◌≤◌, ◌<◌, ℕ, length, get_or}
use Rattle.fb_wanted.proofs.bands.add_bands.Given as goal

-- bands are added with nothing, up to the one
abbrev pub invariant-loop : goal.invariant-loop
invariant-loop g l = ((k : ℕ) → get_or l.bands.items k l.nothing ≡ get_or l.initial.bands.items k l.nothing)
    × (length l.initial.bands.items ≤ length l.bands.items)
    × (length l.bands.items ≡ l.counter)
    × ((n : ℕ) → length l.initial.bands.items ≤ n → l.band < n → length l.bands.items ≤ n)
