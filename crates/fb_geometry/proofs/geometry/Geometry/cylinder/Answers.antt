use Rattle.fb_geometry.proofs.Words.{ap, arith, offset_in, sym, ◌∙◌, ◌≤◌}
use Rattle.fb_geometry.proofs.{Stretched.is_even}
use Rattle.fb_geometry.proofs.geometry.Geometry.cylinder.Goals as goal

pub returns-clause-looked_up : goal.returns-clause-looked_up
returns-clause-looked_up c =
    let few : c.args.self.now.heads ≤ 64 = omega (arith, c.heads.ensures.value, c.heads.ensures.few) in
    record {
      on_disk = c.requires;
      slots = sym c.zone_of-zone.ensures.slots;
      even = λ is. is_even c.args.self.now c.zone_of-zone.result c.args.cylinder c.zone_of-zone.ensures.zone
          (c.has_no_bad.ensures is c.zone_of-zone.result c.zone_of-zone.ensures.zone) c.has_no_bad.result c.track_sectors.result
          c.offset.result c.track_sectors.ensures
          (c.offset.ensures.value ∙ ap (λ heads. offset_in c.zone_of-zone.result heads (record { cylinder = c.args.cylinder; head = 0 }))
          c.heads.ensures.value) few;
    }
