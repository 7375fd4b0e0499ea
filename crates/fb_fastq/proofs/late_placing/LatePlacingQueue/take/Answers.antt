use Rattle.fb_model.specs.Accepted.{IsRequestOf}
use Rattle.fb_fastq.proofs.Words.{all_right}
use Rattle.fb_fastq.proofs.late_placing.LatePlacingQueue.take.Goals as goal

pub place-requires-clause-on_disk : goal.place-requires-clause-on_disk
place-requires-clause-on_disk g c =
    all_right (IsRequestOf c.args.disk.now.map) (g.M.Placing.pending c.args.self.now.placed) c.args.self.now.arrived.items
    c.requires.on_disk
