use Rattle.fb_fastq.proofs.Words.{◌+◌, ◌-◌, ◌*◌, ◌^◌}
use Rattle.fb_fastq.proofs.Passing.{HasPassed}
use Rattle.fb_fastq.proofs.angles.soonest_of_arc.Given as goal

-- the best of the requests before the start
abbrev pub invariant-loop-key : goal.invariant-loop-key
invariant-loop-key l = HasPassed l.disk l.head l.now l.waiting l.arc l.fn.first l.best l.start

abbrev pub decreases-loop-key : goal.decreases-loop-key
decreases-loop-key l = (l.arc.end - l.start.0) * 2 ^ 64 + (2 ^ 64 - l.start.1)
