use Rattle.fb_bgwrite.proofs.Words.{◌≡◌, drop, delivers}
use Rattle.fb_bgwrite.proofs.spills.delivers.Given as goal

abbrev pub invariant-loop-i : goal.invariant-loop-i
invariant-loop-i l = delivers (drop l.fn.from l.rows) ≡ delivers (drop l.i l.rows)
