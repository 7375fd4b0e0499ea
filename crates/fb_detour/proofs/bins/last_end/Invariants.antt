use Rattle.fb_detour.proofs.Words.{◌*◌, ◌+◌, ◌^◌, ◌≤◌}
use Rattle.fb_detour.proofs.bins.last_end.Given as goal

abbrev pub invariant-loop-offer : goal.invariant-loop-offer
invariant-loop-offer l = (l.stop.turning.from ≤ l.last) × (l.last ≤ l.stop.turning.from + 2 * 10 ^ 9)
