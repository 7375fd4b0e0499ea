use Rattle.fb_detour.proofs.Words.{◌≤◌}
use Rattle.fb_detour.proofs.Slots.{AreMost}
use Rattle.fb_detour.proofs.bounds.most_slots.Given as goal

abbrev pub invariant-loop-i : goal.invariant-loop-i
invariant-loop-i l = AreMost l.disk.map.zones l.from l.end l.i l.slots × (l.initial.slots ≤ l.slots) × (l.slots ≤ l.disk.map.rotation)
