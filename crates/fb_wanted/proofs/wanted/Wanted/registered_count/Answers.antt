use Rattle.std.proofs.Common.{ap}
use Rattle.fb_wanted.proofs.wanted.Wanted.registered_count.Goals as goal

pub returns : goal.returns
returns c = ap (λ n. n.registered) c.counts.ensures
