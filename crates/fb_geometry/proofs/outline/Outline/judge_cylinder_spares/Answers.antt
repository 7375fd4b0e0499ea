use Rattle.fb_geometry.proofs.Words.{sym, ◌∙◌}
use Rattle.fb_geometry.proofs.Judging.{cylinder_spares, bad_inside}
use Rattle.fb_geometry.proofs.outline.Outline.judge_cylinder_spares.Goals as goal

pub first_on_full_cylinder-requires : goal.first_on_full_cylinder-requires
first_on_full_cylinder-requires c = let judged = c.in_ok-bad.ensures.sorted in rw c.deref.ensures.value (record {
  zones = c.requires.zones;
  sorted = judged.are;
  inside = bad_inside c.args.self.now c.in_ok-bad.bad.items c.requires.defects judged.faultless judged.are;
})

pub returns-in-Some : goal.returns-in-Some
returns-in-Some c = let judged = c.in_ok-bad.ensures.sorted in
    rw (sym (rw c.deref.ensures.value at c.first_on_full_cylinder.ensures) ∙ c.in-Some.is) at
    (cylinder_spares c.args.self.now c.in_ok-bad.bad.items judged.faultless judged.are)

pub returns : goal.returns
returns c = let judged = c.in_ok-bad.ensures.sorted in
    rw (sym (rw c.deref.ensures.value at c.first_on_full_cylinder.ensures) ∙ c.in-None.is) at
    (cylinder_spares c.args.self.now c.in_ok-bad.bad.items judged.faultless judged.are)
