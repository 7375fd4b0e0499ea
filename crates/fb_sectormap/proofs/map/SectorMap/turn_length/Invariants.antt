use Rattle.fb_sectormap.proofs.Words.{◌≡◌, ℕ, ◌+◌, ◌-◌, ◌<◌, ◌≤◌, true, place_at, is_later}
use Rattle.fb_sectormap.specs.Runs.{IsSpan}
use Rattle.fb_sectormap.proofs.map.SectorMap.turn_length.Given as goal

abbrev pub invariant-loop-length : goal.invariant-loop-length
invariant-loop-length l = record {
  some : 0 < l.length;
  bound : l.length ≤ l.most;
  span : IsSpan l.self l.span;
  end : l.length < l.most → l.first + l.length ≡ l.span.first + l.span.stretch.count;
  goes_on : (i : ℕ) → 0 < i → i < l.length → is_later l.self (place_at l.self (l.first + i - 1)) (place_at l.self (l.first + i)) ≡ true;
}

abbrev pub decreases-loop-length : goal.decreases-loop-length
decreases-loop-length l = l.most - l.length
