use Rattle.fb_fastq.proofs.Turns.{next_behind}
use Rattle.fb_fastq.proofs.by_spot.next_round.Goals as goal

pub returns-in-None-clause-first : goal.returns-in-None-clause-first
returns-in-None-clause-first c =
    next_behind c.args.waiting.now c.args.start c.args.length c.args.from c.requires.from c.next_in-in-None.result c.in-None.ensures.none
    c.next_in-in-None.ensures.inside c.next_in-in-None.ensures.least c.next_in-in-None.ensures.first
