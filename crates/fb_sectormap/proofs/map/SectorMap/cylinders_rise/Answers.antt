use Rattle.fb_sectormap.proofs.Words.{subst, IsSound}
use Rattle.fb_sectormap.proofs.ByCylinder.{cylinders-rise}
use Rattle.fb_sectormap.proofs.map.SectorMap.cylinders_rise.Goals as goal

pub returns : goal.returns
returns c = cylinders-rise c.args.self.now (subst IsSound c.self.view_is c.self.invariant.sound)
