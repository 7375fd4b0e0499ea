use Rattle.fb_sectormap.proofs.Words.{◌≡◌, map, take, sectors_before, start_of}
use Rattle.fb_sectormap.proofs.Zones.{border}
use Rattle.fb_sectormap.proofs.map.SectorMap.new.Given as goal

abbrev pub invariant-loop-i : goal.invariant-loop-i
invariant-loop-i l = record {
  starts : l.starts.items ≡ map (start_of l.fn.geometry) (take l.i l.fn.geometry.zones);
  sectors : l.sectors ≡ sectors_before l.fn.geometry (border 0 l.fn.geometry.zones l.i);
}
