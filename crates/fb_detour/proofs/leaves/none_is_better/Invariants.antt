use Rattle.fb_detour.proofs.Words.{ℕ, ◌*◌, ◌+◌, ◌<◌, Detour, IsDetourIn, IsNoWorseIn}
use Rattle.fb_detour.proofs.leaves.none_is_better.Given as goal

abbrev pub invariant-loop-k : goal.invariant-loop-k
invariant-loop-k l = (leave : ℕ) → leave < l.ceilings.begin + l.k * l.ceilings.step → IsDetourIn l.search l.track leave
    → IsNoWorseIn l.search l.best.plan (Detour l.track leave)
