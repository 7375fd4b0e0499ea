use Rattle.fb_sectormap.proofs.Words.{◌≡◌, subst, slice_get, Shape, data_list_at, IsSound}
use Rattle.std.specs.Prelude.{Some}
use Rattle.fb_sectormap.proofs.Running.{placed_on}
use Rattle.fb_sectormap.proofs.map.SectorMap.place.Goals as goal

pub returns : goal.returns
returns c =
    let disk = c.args.self.now in
    let at = c.by_cylinder-at in
    let place = c.sector_place.result in
    let listed : slice_get (data_list_at disk at.result.cylinder) at.result.sector ≡ Some place =
    subst (λ (d : Shape). slice_get (data_list_at d at.result.cylinder) at.result.sector ≡ Some place) c.self.view_is
    c.sector_place.ensures in
    let its = placed_on disk (subst IsSound c.self.view_is c.self.invariant.sound) at.result.cylinder at.result.sector c.args.lbn
    at.ensures place listed in
    record { at = its.at; value = its.value; track = its.track; slot = its.slot }
