use Rattle.fb_bgwrite.proofs.Words.{depth}
use Rattle.fb_bgwrite.proofs.search.+visit.Given as goal

-- how often the part can be divided
abbrev pub decreases-visit : goal.decreases-visit
decreases-visit l = depth l.search.now.gap.now l.part.from l.part.end
