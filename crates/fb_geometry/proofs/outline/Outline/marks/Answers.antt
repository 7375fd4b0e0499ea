use Rattle.fb_units.proofs.Searches.{find-none}
use Rattle.fb_geometry.proofs.Words.{IsPermutation, get_or, is_mark_before, is_outside, subst, sym, ◌+◌, ◌∙◌}
use Rattle.fb_geometry.proofs.{Marking.sorted_by, Leasts.marks_rank, Clashes.sorted-rise, Clashes.marks_in_order}
use Rattle.fb_geometry.proofs.outline.Outline.marks.Goals as goal

pub returns : goal.returns
returns c =
    let items = c.sort_unstable.new.self.items in
    let inside = find-none (is_outside c.args.self.now) c.args.places.now c.requires.inside in
    let same = subst (λ marks. IsPermutation marks items) c.in_ok-marks.ensures c.sort_unstable.ensures.permutation in
    record {
      inside = inside;
      same = same;
      ordered = marks_in_order c.args.self.now c.requires.zones c.args.places.now items inside same c.requires.once
          (sorted-rise is_mark_before marks_rank items (record { cylinder = 0; position = 0 })
          (λ k d l h. sym (sorted_by (get_or items (k + 1) d) (get_or items k d)) ∙ c.sort_unstable.ensures.sorted k d l h));
    }
