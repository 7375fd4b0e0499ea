use Rattle.fb_tasks.proofs.Words.{◌≡◌, take, bad_sectors}
use Rattle.fb_tasks.proofs.delivering.bad_sectors.Given as goal

abbrev pub invariant-loop-i : goal.invariant-loop-i
invariant-loop-i l = l.lbns.items ≡ bad_sectors (take l.i l.content)
