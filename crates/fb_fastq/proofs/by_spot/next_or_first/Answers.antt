use Rattle.fb_fastq.proofs.Words.{arith}
use Rattle.fb_fastq.proofs.Least.{some_held, waits_there}
use Rattle.fb_fastq.proofs.by_spot.next_or_first.Goals as goal

pub unreachable-requires : goal.unreachable-requires
unreachable-requires c =
    let waiting = c.args.waiting.now in
    let held = some_held waiting c.requires in
    let none = c.in-None.ensures.none held.0 (waits_there waiting held.0 held.1.0 held.1.1) in absurd (omega (arith, none))
