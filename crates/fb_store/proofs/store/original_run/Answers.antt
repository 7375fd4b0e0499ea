use Rattle.std.proofs.Common.{arith}
use Rattle.fb_store.proofs.Originals.{IsRun-original}
use Rattle.fb_store.proofs.store.original_run.Goals as goal

pub returns-else-bad-first : goal.returns-else-bad-first
returns-else-bad-first c =
    let from = c.next_latent-bad.ensures.from in
    IsRun-original c.args.latent.now.keys c.args.first c.args.end c.next_latent-bad.result
    (omega (arith, c.if-bad-first.false)) c.next_latent-bad.ensures.within c.next_latent-bad.ensures.least
