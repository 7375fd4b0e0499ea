use Rattle.fb_store.proofs.Words.{◌≡◌, map, take, run_of}
use Rattle.fb_store.proofs.contents.listed.Given as goal

abbrev pub invariant-loop-run : goal.invariant-loop-run
invariant-loop-run l = map run_of l.kept.items ≡ take l.run-index l.runs
