use Rattle.fb_model.specs.Accepted.{IsRequestOf}
use Rattle.test_queues.proofs.Alike.{all_others}
use Rattle.test_queues.proofs.at_random.step.Goals as goal

pub returns-clause-on_disk : goal.returns-clause-on_disk
returns-clause-on_disk g c = all_others (IsRequestOf c.args.disk.now.map) (g.Q.Queue.key c.args.disk.now c.track-head.result
    c.below-now.result) (g.Q.Queue.pending c.args.queue.now) _ _ c.take.ensures.least c.requires.on_disk
