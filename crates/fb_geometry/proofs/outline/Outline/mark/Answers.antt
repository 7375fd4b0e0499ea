use Rattle.fb_geometry.proofs.Words.{ap, position_in, sym, ◌∙◌}
use Rattle.fb_geometry.proofs.Marking.{position_is}
use Rattle.fb_geometry.proofs.outline.Outline.mark.Goals as goal

pub returns : goal.returns
returns c =
    ap (λ position. record { cylinder = c.args.place.track.cylinder; position = position })
    (c.position.ensures.value ∙ (ap (λ disk. position_in c.zone_of-zone.result disk.heads c.args.place) c.self.view_is
    ∙ sym (position_is c.args.self.now c.zone_of-zone.result c.args.place c.zone_of-zone.ensures.zone.found)))
