use Rattle.fb_geometry.proofs.Words.{PerCylinder, PerTrack, ap, err_from_is_err_and, sym, ◌∙◌}
use Rattle.fb_geometry.proofs.{Judging.refused, Judging.fault_of_zones, Judging.fault_of_spares, Judging.has_zones}
use Rattle.fb_geometry.proofs.outline.Outline.judge.Goals as goal

pub returns-in-Some : goal.returns-in-Some
returns-in-Some c = fault_of_zones c.args.self.now c.in-Some.fault (sym c.zone_fault.ensures ∙ c.in-Some.is)

pub judged_defects-requires : goal.judged_defects-requires
judged_defects-requires c = has_zones c.args.self.now (sym c.zone_fault.ensures ∙ c.in_default.is)

pub returns-in_err-defects : goal.returns-in_err-defects
returns-in_err-defects c =
    let p = err_from_is_err_and c.from_residual.result c.from_residual.ensures.1 in
    rw (p.1, p.2) (refused c.args.self.now c.in_err-defects.field-0.0 (sym c.zone_fault.ensures ∙ c.in_default.is)
    c.in_err-defects.ensures.fault)

pub returns-in-Some-track_spare_fault : goal.returns-in-Some-track_spare_fault
returns-in-Some-track_spare_fault c =
    let layout = sym (ap (λ disk. disk.layout) c.self.view_is) ∙ c.in-PerTrack.is in
    fault_of_spares c.args.self.now PerTrack layout (sym c.zone_fault.ensures ∙ c.in_default.is) c.in_ok-defects.ensures.sorted.faultless
    ∙ (sym c.track_spare_fault.ensures ∙ c.in-Some-track_spare_fault.is)

pub returns-in-PerTrack : goal.returns-in-PerTrack
returns-in-PerTrack c =
    let layout = sym (ap (λ disk. disk.layout) c.self.view_is) ∙ c.in-PerTrack.is in
    fault_of_spares c.args.self.now PerTrack layout (sym c.zone_fault.ensures ∙ c.in_default.is) c.in_ok-defects.ensures.sorted.faultless
    ∙ (sym c.track_spare_fault.ensures ∙ c.in-None.is)

pub returns : goal.returns
returns c =
    let layout = sym (ap (λ disk. disk.layout) c.self.view_is) ∙ c.in-PerCylinder.is in
    rw (fault_of_spares c.args.self.now PerCylinder layout (sym c.zone_fault.ensures ∙ c.in_default.is)
    c.in_ok-defects.ensures.sorted.faultless) c.judge_cylinder_spares.ensures
