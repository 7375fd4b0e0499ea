use Rattle.fb_geometry.proofs.Words.{Some, ap, length, slice_get, slice_get-get_or, subst, sym, zone_at, ◌<◌, ◌∙◌, ◌≡◌}
use Rattle.fb_geometry.proofs.{Faultless.found_zone, Faultless.slots_at-zone}
use Rattle.fb_geometry.proofs.outline.Outline.zone_of.Goals as goal

found : (c : goal.After-result-1) → zone_at c.args.self.now.zones c.args.cylinder ≡ Some c.index.result.now
found c =
    let zones = c.self.inside.zones.items in
    let inside : c.zone_number.result < length zones = subst (λ zones. c.zone_number.result < length zones) c.as_slice.ensures.value
    c.zone_number.ensures.inside in
    let at : zone_at zones c.args.cylinder ≡ slice_get zones c.zone_number.result =
    subst (λ zones. zone_at zones c.args.cylinder ≡ slice_get zones c.zone_number.result) c.as_slice.ensures.value
    c.zone_number.ensures.zone in
    subst (λ disk. zone_at disk.zones c.args.cylinder ≡ Some c.index.result.now) c.self.view_is
    (at ∙ slice_get-get_or zones c.zone_number.result c.index.result.now inside ∙ ap Some (sym c.index.ensures))

pub returns-clause-zone : goal.returns-clause-zone
returns-clause-zone c = found_zone c.args.self.now c.requires.zones c.args.cylinder c.index.result.now (found c)

pub returns-clause-slots : goal.returns-clause-slots
returns-clause-slots c = slots_at-zone c.args.self.now.zones c.args.cylinder c.index.result.now (found c)
