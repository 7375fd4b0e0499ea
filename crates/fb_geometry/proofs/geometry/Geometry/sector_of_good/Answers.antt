use Rattle.fb_geometry.proofs.Words.{arith, refl, sym, ◌-◌}
use Rattle.fb_geometry.proofs.{Lookups.judged_entry, Lookups.before_good, Lookups.none_by_track, Lookups.some_by_head}
use Rattle.fb_geometry.proofs.geometry.Geometry.sector_of_good.Goals as goal

pub overflow_sub-sector : goal.overflow_sub-sector
overflow_sub-sector c =
    let before = rw (c.defects_on-defects.ensures.marks c.args.zone c.requires.zone) at c.unmarked_before.ensures in
    omega (
      arith,
      before,
      before_good c.args.self.now c.args.zone c.args.place.track.cylinder c.requires.zone c.args.place refl
          c.requires.head c.requires.slot c.requires.good c.args.good c.requires.index,
    )

pub returns-then-sector-sectors : goal.returns-then-sector-sectors
returns-then-sector-sectors c =
    let before = rw (c.defects_on-defects.ensures.marks c.args.zone c.requires.zone) at c.unmarked_before.ensures in
    none_by_track c.args.self.now c.args.zone c.args.place.track.cylinder c.requires.zone c.args.place refl c.requires.head c.requires.slot
    c.requires.good c.args.good c.requires.index (sym c.in-PerTrack.ensures) (omega (arith, before))

pub returns-else-sector-sectors : goal.returns-else-sector-sectors
returns-else-sector-sectors c =
    let before = rw (c.defects_on-defects.ensures.marks c.args.zone c.requires.zone) at c.unmarked_before.ensures in
    some_by_head c.args.self.now c.args.zone c.args.place.track.cylinder c.requires.zone c.args.place refl c.requires.head c.requires.slot
    c.requires.good c.args.good c.requires.index (sym c.in-PerTrack.ensures) (c.args.good - c.unmarked_before.result)
    (omega (arith, before)) (omega arith)

pub returns-in-PerCylinder : goal.returns-in-PerCylinder
returns-in-PerCylinder c =
    judged_entry c.args.self.now c.args.zone c.args.place.track.cylinder c.requires.zone c.args.place refl c.requires.head c.requires.slot
    c.requires.good c.args.good c.requires.index
    (sym c.in-PerCylinder.ensures) c.sector_of_entry.result
    (rw (c.grown_on.ensures.marks c.args.zone c.requires.zone, c.heads-heads.ensures.value) at c.sector_of_entry.ensures.none)
    (rw (c.grown_on.ensures.marks c.args.zone c.requires.zone, c.heads-heads.ensures.value) at c.sector_of_entry.ensures.some)
