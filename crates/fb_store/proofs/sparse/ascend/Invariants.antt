use Rattle.fb_store.proofs.Words.{◌≡◌, drop, ascend}
use Rattle.fb_store.proofs.sparse.ascend.Given as goal

abbrev pub invariant-loop-i : goal.invariant-loop-i
invariant-loop-i l = ascend 0 l.contents ≡ ascend l.end (drop l.i l.contents)
