use Rattle.fb_decide.proofs.Words.{◌≡◌, [], drop, all_passages_of, wanted_of, in_order}
use Rattle.fb_decide.proofs.Carrying.{added_by_all}
use Rattle.fb_decide.proofs.riding.carried.Given as goal

abbrev pub invariant-loop-extent : goal.invariant-loop-extent
invariant-loop-extent l = added_by_all (all_passages_of l.disk.map l.extents) l.extents l.request [] (wanted_of l.wanted)
    ≡ added_by_all (all_passages_of l.disk.map l.extents) (drop l.extent-index l.extents) l.request (in_order l.found.items)
    (wanted_of l.wanted)
