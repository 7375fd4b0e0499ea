use Rattle.std.proofs.Common.{◌≡◌, map, take}
use Rattle.fb_mirror.proofs.changes.contents_of.Given as goal

abbrev pub invariant-loop-change : goal.invariant-loop-change
invariant-loop-change l = l.contents ≡ map (λ change. change.run) (take l.change-index l.changes)
