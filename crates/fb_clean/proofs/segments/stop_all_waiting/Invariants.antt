use Rattle.std.proofs.Common.{◌≡◌, ◌++◌, take, drop, map}
use Rattle.fb_clean.specs.Segments.{no_longer_waiting}
use Rattle.fb_clean.proofs.segments.stop_all_waiting.Given as goal

abbrev pub invariant-loop-i : goal.invariant-loop-i
invariant-loop-i l = l.segments ≡ map no_longer_waiting (take l.i l.initial.segments) ++ drop l.i l.initial.segments
