use Rattle.fb_geometry.proofs.Words.{Place, arith, refl, sym, ◌∙◌}
use Rattle.fb_geometry.proofs.{Lookups.defect_at, Lookups.none_on_defect}
use Rattle.fb_geometry.proofs.geometry.Geometry.sector_of_slot.Goals as goal

pub returns-then-is_marked : goal.returns-then-is_marked
returns-then-is_marked c =
    let place : Place = record { track = c.args.track; slot = c.args.slot } in
    let marks = c.defects_on-defects.ensures.marks c.zone_of-zone.result c.zone_of-zone.ensures.zone in
    let marked = rw (marks, c.position-position.ensures.value, c.heads.ensures.value) at c.is_marked.ensures in
    none_on_defect c.args.self.now c.zone_of-zone.result c.args.track.cylinder c.zone_of-zone.ensures.zone place refl c.requires.head
    (omega (arith, c.requires.slot, c.zone_of-zone.ensures.slots))
    (sym (defect_at c.args.self.now c.zone_of-zone.result c.args.track.cylinder c.zone_of-zone.ensures.zone place refl c.requires.head
    (omega (arith, c.requires.slot, c.zone_of-zone.ensures.slots))) ∙ (sym marked ∙ c.if-is_marked.true))

pub sector_of_good-requires-clause-good : goal.sector_of_good-requires-clause-good
sector_of_good-requires-clause-good c =
    let place : Place = record { track = c.args.track; slot = c.args.slot } in
    let marks = c.defects_on-defects.ensures.marks c.zone_of-zone.result c.zone_of-zone.ensures.zone in
    let marked = rw (marks, c.position-position.ensures.value, c.heads.ensures.value) at c.is_marked.ensures in
    sym (defect_at c.args.self.now c.zone_of-zone.result c.args.track.cylinder c.zone_of-zone.ensures.zone place refl c.requires.head
    (omega (arith, c.requires.slot, c.zone_of-zone.ensures.slots))) ∙ (sym marked ∙ c.if-is_marked.false)

pub sector_of_good-requires-clause-index : goal.sector_of_good-requires-clause-index
sector_of_good-requires-clause-index c =
    let marks = c.defects_on-defects.ensures.marks c.zone_of-zone.result c.zone_of-zone.ensures.zone in
    rw (marks, c.position-position.ensures.value, c.heads.ensures.value) at c.unmarked_before.ensures
