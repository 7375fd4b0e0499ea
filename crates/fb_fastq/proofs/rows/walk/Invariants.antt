use Rattle.fb_fastq.proofs.Words.{length}
use Rattle.fb_fastq.proofs.Outwards.{IsOutwards}
use Rattle.fb_fastq.proofs.rows.walk.Given as goal

-- the best of the rows that are seen
abbrev pub invariant-loop-cylinder : goal.invariant-loop-cylinder
invariant-loop-cylinder l = IsOutwards l.disk l.from l.rows l.fn.pick l.side l.pick l.left

abbrev pub decreases-loop-cylinder : goal.decreases-loop-cylinder
decreases-loop-cylinder l = length l.left
