use Rattle.fb_mirror.proofs.Words.{◌≡◌, ◌++◌, take, flat_map, changes_of, deliveries_in}
use Rattle.fb_mirror.proofs.changes.push_deliveries.Given as goal

abbrev pub invariant-loop-i : goal.invariant-loop-i
invariant-loop-i l = l.changes.items ≡ l.fn.changes.items ++ changes_of (flat_map deliveries_in (take l.i l.rows))
