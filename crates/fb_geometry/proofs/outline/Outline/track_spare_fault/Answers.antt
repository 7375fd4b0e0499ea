use Rattle.fb_geometry.proofs.Words.{sym, ◌∙◌}
use Rattle.fb_geometry.proofs.Judging.{track_spares, defects_inside}
use Rattle.fb_geometry.proofs.outline.Outline.track_spare_fault.Goals as goal

pub first_on_full_track-requires : goal.first_on_full_track-requires
first_on_full_track-requires c = let judged = c.requires.defects in record {
  zones = c.requires.zones;
  sorted = judged.are;
  inside = defects_inside c.args.self.now c.args.defects.now judged.faultless judged.are;
}

pub returns-in_err-place : goal.returns-in_err-place
returns-in_err-place c = c.from_residual.ensures ∙ sym (rw (sym c.first_on_full_track.ensures ∙ c.in_err-place.was) at
    (track_spares c.args.self.now c.args.defects.now c.requires.defects.are))

pub returns : goal.returns
returns c = sym (rw (sym c.first_on_full_track.ensures ∙ c.in_ok-place.was) at
    (track_spares c.args.self.now c.args.defects.now c.requires.defects.are))
