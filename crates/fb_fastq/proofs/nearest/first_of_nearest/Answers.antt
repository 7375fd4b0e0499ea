use Rattle.fb_fastq.proofs.Words.{ℕ, ◌<◌, ◌≤◌, arith, subst, IfNone, Waits}
use Rattle.fb_fastq.proofs.Least.{some_held, waits_there}
use Rattle.fb_fastq.proofs.nearest.first_of_nearest.Goals as goal

pub unreachable-requires : goal.unreachable-requires
unreachable-requires c =
    let waiting = c.args.waiting.now in
    let held = some_held waiting c.requires in
    let has = waits_there waiting held.0 held.1.0 held.1.1 in
    let below =
    subst (λ o. IfNone o ((k : ℕ × ℕ) → Waits waiting k → k.0 < c.args.spot)) c.in-None-None.is-0 c.next_from.ensures.none held.0 has in
    let above =
    subst (λ o. IfNone o ((k : ℕ × ℕ) → Waits waiting k → c.args.spot ≤ k.0)) c.in-None-None.is-1 c.first_before.ensures.none held.0 has in
    absurd (omega (arith, below, above))
