use Rattle.std.proofs.Common.{rules}
use Rattle.fb_sectormap.proofs.Searches.{lbn-searched}
use Rattle.fb_sectormap.proofs.map.SectorMap.start_by_lbn.Goals as goal

pub overflow_sub-result : goal.overflow_sub-result
overflow_sub-result c = (lbn-searched c.self.inside.geometry c.args.self.now c.self.inside.starts.items c.as_slice-starts.result.now
    c.self.inside.sectors c.self.invariant c.self.view_is c.as_slice-starts.ensures.value c.args.lbn c.partition_point.result
    (record { cylinder = 0; lbn = 0; cylinder_sectors = 0 })
    c.partition_point.ensures.bound c.requires c.partition_point.ensures.partitioned (λ a r f called. search rules)).0

pub returns : goal.returns
returns c = (lbn-searched c.self.inside.geometry c.args.self.now c.self.inside.starts.items c.as_slice-starts.result.now
    c.self.inside.sectors c.self.invariant c.self.view_is c.as_slice-starts.ensures.value c.args.lbn c.partition_point.result
    (record { cylinder = 0; lbn = 0; cylinder_sectors = 0 })
    c.partition_point.ensures.bound c.requires c.partition_point.ensures.partitioned (λ a r f called. search rules)).1
