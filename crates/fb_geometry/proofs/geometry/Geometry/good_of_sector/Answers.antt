use Rattle.fb_geometry.proofs.Words.{PerCylinder, PerTrack, arith, sym}
use Rattle.fb_geometry.proofs.{Slips.slipped_to, Lookups.few_slots, Lookups.split_by_track, Lookups.placed, Lookups.defects_ascend}
use Rattle.fb_geometry.proofs.{Lookups.good_number, Lookups.defects_of}
use Rattle.fb_geometry.proofs.geometry.Geometry.good_of_sector.Goals as goal

pub overflow_mul-first : goal.overflow_mul-first
overflow_mul-first c =
    let split = split_by_track c.args.self.now c.args.zone c.args.cylinder c.requires.zone (sym c.in-PerTrack.ensures)
    c.args.j c.requires.sector in
    omega (arith, few_slots c.args.self.now c.args.zone (omega arith) c.requires.zone.ranges, split.3)

pub overflow_add-result : goal.overflow_add-result
overflow_add-result c =
    let split = split_by_track c.args.self.now c.args.zone c.args.cylinder c.requires.zone (sym c.in-PerTrack.ensures)
    c.args.j c.requires.sector in
    omega (arith, few_slots c.args.self.now c.args.zone (omega arith) c.requires.zone.ranges, split.1, split.3)

pub returns-in-PerTrack : goal.returns-in-PerTrack
returns-in-PerTrack c =
    rw (c.unmarked_before.ensures, c.defects_on.ensures.marks c.args.zone c.requires.zone)
    (placed c.args.self.now c.args.zone c.args.cylinder c.requires.zone PerTrack (sym c.in-PerTrack.ensures)
    c.args.j c.requires.sector)

pub entry_of_sector-requires-clause-fits : goal.entry_of_sector-requires-clause-fits
entry_of_sector-requires-clause-fits c =
    let disk = c.args.self.now in
    let zone = c.args.zone in
    let good = good_number PerCylinder disk zone c.args.cylinder c.args.j in
    let inside = (placed disk zone c.args.cylinder c.requires.zone PerCylinder (sym c.in-PerCylinder.ensures) c.args.j
    c.requires.sector).inside in
    let to = slipped_to good (defects_of disk zone c.args.cylinder) (defects_ascend disk zone c.args.cylinder c.requires.zone) in
    rw (c.grown_on.ensures.marks c.args.zone c.requires.zone, c.heads-heads.ensures.value)
    (omega (arith, inside, to.0, few_slots disk zone (omega arith) c.requires.zone.ranges))

pub returns-in-PerCylinder : goal.returns-in-PerCylinder
returns-in-PerCylinder c =
    rw (c.entry_of_sector.ensures, c.grown_on.ensures.marks c.args.zone c.requires.zone, c.heads-heads.ensures.value)
    (placed c.args.self.now c.args.zone c.args.cylinder c.requires.zone PerCylinder (sym c.in-PerCylinder.ensures)
    c.args.j c.requires.sector)
