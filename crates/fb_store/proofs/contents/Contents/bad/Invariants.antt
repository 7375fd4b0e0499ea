use Rattle.fb_store.proofs.Words.{◌≡◌, take, sum_by, bad_in}
use Rattle.fb_store.proofs.contents.Contents.bad.Given as goal

abbrev pub invariant-loop-i : goal.invariant-loop-i
invariant-loop-i l = l.bad ≡ sum_by bad_in (take l.i l.self)
