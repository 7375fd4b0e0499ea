use Rattle.fb_decide.proofs.Words.{ℕ, fold, behind}
use Rattle.fb_decide.proofs.Behind.{HasPlaced}
use Rattle.fb_decide.proofs.foreground.merged.Given as goal

abbrev pub invariant-loop-read : goal.invariant-loop-read
invariant-loop-read l = (now : ℕ) × HasPlaced (fold behind l.trace l.reads) l.reads l.requests.items l.trace l.read-index l.next now
