use Rattle.fb_bgwrite.proofs.Going.{IsGoing}
use Rattle.fb_bgwrite.proofs.spills.spill.Given as goal

abbrev pub invariant-loop-i : goal.invariant-loop-i
invariant-loop-i l = IsGoing l.disk l.puts.puts.items l.run.back l.i l.spilling
