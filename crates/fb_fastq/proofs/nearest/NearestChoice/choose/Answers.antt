use Rattle.fb_fastq.proofs.Words.{track_at, distance_of}
use Rattle.fb_fastq.proofs.Least.{first_by_spot}
use Rattle.fb_fastq.proofs.nearest.NearestChoice.choose.Goals as goal

pub returns-clause-first : goal.returns-clause-first
returns-clause-first c =
    first_by_spot (λ n. distance_of n c.args.head.cylinder)
    (λ r. (track_at c.args._disk.now.map r.lbn).cylinder) c.args.waiting.now c.first_of_nearest.result
    (λ k r e. (c.requires.spots k r e).value) c.first_of_nearest.ensures.first
