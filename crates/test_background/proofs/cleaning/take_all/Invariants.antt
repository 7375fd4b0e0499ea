use Rattle.std.proofs.Common.{◌≡◌}
use Rattle.test_background.proofs.cleaning.take_all.Given as goal

abbrev pub invariant-loop-lbn : goal.invariant-loop-lbn
invariant-loop-lbn l = (l.segments.segments ≡ l.fn.segments.segments) × (l.segments.unfinished ≡ l.fn.segments.unfinished)
