use Rattle.std.proofs.Common.{◌*◌, ◌+◌, ◌-◌, ap₂}
use Rattle.fb_clean.specs.Ranks.{rank}
use Rattle.fb_clean.proofs.segment.Segment.rank.Goals as goal

pub returns : goal.returns
unfolding rank
returns c = ap₂ (λ r s. r * 4294967296 + (4294967295 - s.number)) c.ratio.ensures.value c.self.view_is
