use Rattle.fb_decide.proofs.Words.{◌≡◌, take, all_passages_of, added}
use Rattle.fb_decide.proofs.riding.add_carried.Given as goal

abbrev pub invariant-loop-i : goal.invariant-loop-i
invariant-loop-i l =
    l.found.items ≡ added (all_passages_of l.disk.map l.extents) l.extent l.request l.fn.found.items (take l.i l.candidates)
