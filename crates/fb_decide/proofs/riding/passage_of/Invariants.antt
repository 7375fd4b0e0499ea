use Rattle.fb_decide.proofs.Words.{◌≡◌, ◌==◌, drop, find, all_passages_of}
use Rattle.fb_decide.proofs.riding.passage_of.Given as goal

abbrev pub invariant-loop-extent : goal.invariant-loop-extent
invariant-loop-extent l = find (λ passage. passage.lbn == l.lbn) (all_passages_of l.disk.map l.extents)
    ≡ find (λ passage. passage.lbn == l.lbn) (all_passages_of l.disk.map (drop l.extent-index l.extents))
