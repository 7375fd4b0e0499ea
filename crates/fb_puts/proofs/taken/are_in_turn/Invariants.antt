use Rattle.fb_puts.proofs.Words.{drop, SectorRange}
use Rattle.fb_puts.proofs.Shuffled.{AreBehind}
use Rattle.fb_puts.proofs.taken.are_in_turn.Given as goal

abbrev pub invariant-loop-range : goal.invariant-loop-range
invariant-loop-range l = AreBehind l.last (drop l.range-index l.ranges)
    → AreBehind (let start : SectorRange = record { first = 0; count = 0 } in start) l.ranges
