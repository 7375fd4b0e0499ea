use Rattle.fb_fastq.specs.NonePending.{all_of_none}
use Rattle.fb_fastq.specs.Spots.{IsAngleOf}
use Rattle.fb_fastq.proofs.sptf.Buckets.choose.Goals as goal

pub returns-clause-fits : goal.returns-clause-fits
returns-clause-fits c = all_of_none (λ w. IsAngleOf c.args.disk.now w.1 w.0.0) c.new.result.waiting c.new.ensures
