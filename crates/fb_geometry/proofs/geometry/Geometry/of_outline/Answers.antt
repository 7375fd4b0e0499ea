use Rattle.fb_geometry.proofs.Words.{AreInOrder, AreOwnMarks, ap, is_place_before, refl}
use Rattle.fb_geometry.proofs.{Faultless.least-none, Judging.faultless, Judging.fits_per_track, Judging.grown_once, Once.sound}
use Rattle.fb_geometry.proofs.{OwnMarks.own_marks}
use Rattle.fb_geometry.proofs.geometry.Geometry.of_outline.Goals.{In_ok-zone_numbers}
use Rattle.fb_geometry.proofs.geometry.Geometry.of_outline.Goals as goal

pub marks-requires : goal.marks-requires
marks-requires c =
    let good = faultless c.args.outline c.in_ok-judge.ensures in
    rw (c.as_slice.ensures.value, ap (λ disk. disk.defects) c.outline.view_is) (record {
      zones = good.zones_hold;
      inside = good.defects_inside;
      once = least-none is_place_before _ good.defects_once;
    })

pub marks-requires-2 : goal.marks-requires-2
marks-requires-2 c =
    let good = faultless c.args.outline c.in_ok-judge.ensures in
    let once = grown_once c.args.outline.layout c.args.outline c.requires.fits good.spares in
    rw (c.as_slice-2.ensures.value, ap (λ disk. disk.grown) c.outline.view_is)
    (record { zones = good.zones_hold; inside = once.0; once = once.1 })

pub zone_numbers-requires : goal.zone_numbers-requires
zone_numbers-requires c = (faultless c.args.outline c.in_ok-judge.ensures).zones_hold

-- the marks of the defects are sorted with those of the grown ones that no defect has, and they are the outline's own
both_marks : (c : In_ok-zone_numbers) → AreInOrder c.in_ok-grown-2.grown.items
    × AreOwnMarks c.args.outline c.in_ok-defects.defects.items c.in_ok-grown-2.grown.items
both_marks c =
    let disk = c.args.outline in
    let good = faultless disk c.in_ok-judge.ensures in
    let are = rw (c.as_slice.ensures.value, ap (λ disk. disk.defects) c.outline.view_is) at c.in_ok-defects.ensures in
    let those = rw (c.as_slice-2.ensures.value, ap (λ disk. disk.grown) c.outline.view_is) at c.in_ok-grown.ensures in
    rw (rw (c.deref.ensures.value, c.deref-2.ensures.value) at c.in_ok-grown-2.ensures) (own_marks disk good.zones_hold
    c.in_ok-defects.defects.items c.in_ok-grown.grown.items are those (grown_once disk.layout disk c.requires.fits good.spares).2)

pub of-requires-2 : goal.of-requires-2
of-requires-2 c = (both_marks (goal.at.of-requires-2 c).In_ok-zone_numbers).0

pub invariant_of-result : goal.invariant_of-result
invariant_of-result c =
    let disk = c.args.outline in
    let good = faultless disk c.in_ok-judge.ensures in
    rw (c.of.ensures, c.of-2.ensures) (record {
      faultless = good;
      numbered = c.in_ok-zone_numbers.ensures;
      sound = sound disk good;
      own_marks = (both_marks (goal.at.invariant_of-result c).In_ok-zone_numbers).1;
      fits = fits_per_track disk.layout disk c.requires.fits;
    })

pub returns : goal.returns
returns c = (refl, c.in_ok-judge.ensures)
