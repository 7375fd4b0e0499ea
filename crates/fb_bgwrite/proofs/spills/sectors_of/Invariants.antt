use Rattle.fb_bgwrite.proofs.Words.{◌≡◌, take, sum_by, Put}
use Rattle.fb_bgwrite.proofs.spills.sectors_of.Given as goal

abbrev pub invariant-loop-put : goal.invariant-loop-put
invariant-loop-put l = l.sectors ≡ sum_by (λ (put : Put). put.count) (take l.put-index l.puts)
