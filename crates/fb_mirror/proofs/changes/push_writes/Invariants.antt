use Rattle.fb_mirror.proofs.Words.{◌≡◌, ◌++◌, take, flat_map, changes_of, writes_in}
use Rattle.fb_mirror.proofs.changes.push_writes.Given as goal

abbrev pub invariant-loop-i : goal.invariant-loop-i
invariant-loop-i l = l.changes.items ≡ l.fn.changes.items ++ changes_of (flat_map writes_in (take l.i l.rows))
