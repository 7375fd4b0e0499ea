use Rattle.fb_geometry.proofs.Words.{drop, first_apart, ◌≡◌}
use Rattle.fb_geometry.proofs.outline.Outline.first_apart.Given as goal

abbrev pub invariant-loop-index : goal.invariant-loop-index
invariant-loop-index l = first_apart l.index l.begin (drop l.index l.zones) ≡ first_apart 0 0 l.zones
