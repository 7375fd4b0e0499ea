use Rattle.fb_bgwrite.proofs.Words.{◌≡◌, ℕ, length, get_or}
use Rattle.fb_bgwrite.proofs.shortest.lower.Given as goal

-- bounds of 2,049 are added
abbrev pub invariant-loop : goal.invariant-loop
invariant-loop l = ((k : ℕ) → get_or l.bounds.items k 2049 ≡ get_or l.initial.bounds.items k 2049) × (length l.bounds.items ≡ l.counter)
