use Rattle.fb_report.proofs.Words.{◌≡◌, ◌≤◌, ◌*◌, ◌^◌, take, sum_by}
use Rattle.fb_report.proofs.contents.sectors.Given as goal

abbrev pub invariant-loop-index : goal.invariant-loop-index
invariant-loop-index l = (l.sectors ≡ sum_by (λ run. run.count) (take l.index l.contents)) × (l.sectors ≤ l.index * 10 ^ 12)
