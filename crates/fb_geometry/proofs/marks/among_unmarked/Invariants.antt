use Rattle.fb_geometry.proofs.Words.{among_unmarked, map, take, ◌≡◌}
use Rattle.fb_geometry.proofs.marks.among_unmarked.Given as goal

abbrev pub invariant-loop-mark : goal.invariant-loop-mark
invariant-loop-mark l = l.unmarked.items ≡ map (among_unmarked l.marked) (take l.mark-index l.marks)
