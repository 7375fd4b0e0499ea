use Rattle.std.proofs.Common.{◌≡◌, take}
use Rattle.std.specs.List.{flat_map, range_with_len}
use Rattle.fb_store.specs.Ranges.{held_at}
use Rattle.fb_store.specs.Sparse.{held_in}
use Rattle.fb_store.specs.Runs.{runs_of}
use Rattle.fb_clean.proofs.segments.pack.Given as goal

abbrev pub invariant-loop-lbn : goal.invariant-loop-lbn
invariant-loop-lbn l = l.runs ≡ runs_of (flat_map (λ lbn. held_in (held_at l.taken) (range_with_len lbn l.block)) (take l.lbn-index l.live))
