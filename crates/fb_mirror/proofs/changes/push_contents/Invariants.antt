use Rattle.std.proofs.Common.{◌≡◌, ◌++◌, map, take}
use Rattle.fb_mirror.proofs.changes.push_contents.Given as goal

abbrev pub invariant-loop-i : goal.invariant-loop-i
invariant-loop-i l = l.changes.items ≡ l.fn.changes.items ++ map (λ run. record { instant = l.fn.instant; run = run }) (take l.i l.contents)
