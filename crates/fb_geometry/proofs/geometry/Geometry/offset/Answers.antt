use Rattle.fb_geometry.proofs.{Faultless.offset_at_zone}
use Rattle.fb_geometry.proofs.geometry.Geometry.offset.Goals as goal

pub returns-clause-value : goal.returns-clause-value
returns-clause-value c =
    rw (offset_at_zone c.args.self.now.zones c.args.self.now.heads c.args.track c.zone_of.result c.zone_of.ensures.zone.found)
    (rw c.heads.ensures.value at c.offset.ensures.value)
