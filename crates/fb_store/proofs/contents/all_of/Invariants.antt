use Rattle.fb_store.proofs.Words.{◌≡◌, map, take, run_of}
use Rattle.fb_store.proofs.contents.all_of.Given as goal

abbrev pub invariant-loop-run : goal.invariant-loop-run
invariant-loop-run l = l.all.items ≡ map run_of (take l.run-index l.runs)
