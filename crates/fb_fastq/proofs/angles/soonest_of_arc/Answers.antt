use Rattle.fb_fastq.proofs.Words.{arith}
use Rattle.fb_fastq.proofs.Passing.{arc_stops, passes_on}
use Rattle.fb_fastq.proofs.angles.soonest_of_arc.Goals as goal

pub loop-key-preserved : goal.loop-key-preserved
loop-key-preserved c =
    passes_on c.args.disk.now c.args.head c.args.now c.args.waiting.now c.requires.spots c.args.arc c.requires.arc c.args.first
    c.loop-key.best c.loop-key.start c.loop-key.invariant c.in-Some.key c.in-Some.request c.in-Some.ensures.found c.in-Some.ensures.behind
    c.in-Some.ensures.least c.sooner-best.result c.key_of-wait.result c.key_of-wait.ensures (omega (arith, c.if-arc-key.false)) c.sooner-best.ensures.one
    c.sooner-best.ensures.first c.sooner-best.ensures.second

pub returns-then-comes_no_later-clause-least : goal.returns-then-comes_no_later-clause-least
returns-then-comes_no_later-clause-least c =
    arc_stops c.args.disk.now c.args.head c.args.now c.args.waiting.now c.requires.spots c.args.arc c.requires.arc c.args.first
    c.loop-key.best c.loop-key.start c.loop-key.invariant c.in-Some.key c.in-Some.request c.in-Some.ensures.found c.in-Some.ensures.behind
    c.in-Some.ensures.least (c.comes_no_later.ensures c.if-comes_no_later.true)
