use Rattle.fb_sectormap.proofs.Words.{subst, IsSound}
use Rattle.fb_sectormap.proofs.ByCylinder.{count_few}
use Rattle.fb_sectormap.proofs.map.SectorMap.few_sectors.Goals as goal

pub returns : goal.returns
returns c = count_few c.args.self.now (subst IsSound c.self.view_is c.self.invariant.sound)
