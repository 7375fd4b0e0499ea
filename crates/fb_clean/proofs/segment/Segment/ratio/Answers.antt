use Rattle.std.proofs.Common.{ap, refl}
use Rattle.fb_clean.specs.Ranks.{ratio}
use Rattle.fb_clean.proofs.segment.Segment.ratio.Goals as goal

pub returns-clause-value : goal.returns-clause-value
unfolding ratio
returns-clause-value c = rw (c.max.ensures, c.cost.ensures.value, c.free.ensures.value, ap (λ s. s.age) c.self.view_is) refl
