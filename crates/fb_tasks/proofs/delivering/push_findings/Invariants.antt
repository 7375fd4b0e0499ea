use Rattle.fb_tasks.proofs.Words.{◌≡◌, ◌++◌, map, take, Bad}
use Rattle.fb_tasks.proofs.delivering.push_findings.Given as goal

abbrev pub invariant-loop-lbn : goal.invariant-loop-lbn
invariant-loop-lbn l = l.rows ≡ l.initial.rows ++ map (λ lbn. Bad (record { task = l.task; lbn = lbn })) (take l.lbn-index l.lbns)
