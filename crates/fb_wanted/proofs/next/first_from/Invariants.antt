use Rattle.fb_wanted.proofs.Words.{◌*◌, ◌+◌, ◌-◌, length, NoneIsBetween}
use Rattle.fb_wanted.proofs.next.first_from.Given as goal

-- none of the bands before has a block on the cylinders from `start` on
abbrev pub invariant-loop-band : goal.invariant-loop-band
invariant-loop-band l = NoneIsBetween l.tracks l.start (l.band * 64)

abbrev pub decreases-loop-band : goal.decreases-loop-band
decreases-loop-band l = length l.tracks + 1 - l.band
