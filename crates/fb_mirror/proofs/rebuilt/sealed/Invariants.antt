use Rattle.fb_mirror.proofs.Words.{◌≡◌, drop, sealed_in}
use Rattle.fb_mirror.proofs.rebuilt.sealed.Given as goal

abbrev pub invariant-loop-i : goal.invariant-loop-i
invariant-loop-i l = sealed_in (drop l.i l.rows) ≡ sealed_in l.rows
