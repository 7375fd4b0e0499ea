use Rattle.std.proofs.Common.{arith}
use Rattle.fb_clean.proofs.Ranked.{rank_is}
use Rattle.fb_clean.proofs.segment.number_of.Goals as goal

pub returns : goal.returns
returns c = λ segment few is. omega (arith, few, is, rank_is segment)
