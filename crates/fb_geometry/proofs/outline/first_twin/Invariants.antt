use Rattle.fb_geometry.proofs.Words.{drop, repeated, ◌-◌, ◌≡◌}
use Rattle.fb_geometry.proofs.outline.first_twin.Given as goal

abbrev pub invariant-loop-i : goal.invariant-loop-i
invariant-loop-i l = repeated (drop (l.i - 1) l.sorted) ≡ repeated l.sorted
