use Rattle.std.proofs.Common.{ap}
use Rattle.fb_wanted.proofs.wanted.Wanted.state.Goals as goal

pub returns : goal.returns
returns c = λ e i at is. ap (λ x. x.state) (c.entry.ensures e i at is)
