use Rattle.fb_mirror.proofs.Words.{◌≡◌, take, sum_by}
use Rattle.fb_mirror.proofs.rebuilt.sectors.Given as goal

abbrev pub invariant-loop-i : goal.invariant-loop-i
invariant-loop-i l = l.sectors ≡ sum_by (λ run. run.count) (take l.i l.runs)
