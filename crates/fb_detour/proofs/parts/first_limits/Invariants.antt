use Rattle.fb_detour.proofs.Words.{get_or, length, ℕ, ◌*◌, ◌+◌, ◌-◌, ◌<◌, ◌≡◌}
use Rattle.fb_detour.proofs.parts.first_limits.Given as goal

abbrev pub invariant-loop-k : goal.invariant-loop-k
invariant-loop-k l = (length l.limits ≡ 33) × ((j : ℕ) → j < l.k + 1 → get_or l.limits j 0 ≡ l.begin + (j - 1) * l.step)
