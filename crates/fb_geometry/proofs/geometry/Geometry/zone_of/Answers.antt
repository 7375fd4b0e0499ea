use Rattle.fb_geometry.proofs.Words.{IsZoneAt, subst}
use Rattle.fb_geometry.proofs.{Faultless.zone_by_search}
use Rattle.fb_geometry.proofs.geometry.Geometry.zone_of.Goals as goal

pub returns-clause-zone : goal.returns-clause-zone
returns-clause-zone c =
    let zone = c.zone_numbered.result in
    subst (λ disk. IsZoneAt disk c.args.cylinder zone) c.self.view_is (zone_by_search c.self.inside.outline c.self.invariant.faultless
    c.args.cylinder zone c.zone_numbered.ensures)
