use Rattle.fb_geometry.proofs.Words.{IsPermutation, ap, arith, is_place_before, nat_tests, subst, ◌++◌, ◌∙◌}
use Rattle.fb_geometry.proofs.{Leasts.places_rank, Clashes.sorted-rise}
use Rattle.fb_geometry.proofs.outline.sorted.Goals as goal

pub returns : goal.returns
returns c =
    let items = c.sort_unstable.new.self.items in
    record {
      same = subst (λ places. IsPermutation places items) (c.in_ok-extend_from_slice.ensures.items
          ∙ ap (λ places. places ++ c.args.others.now) c.in_ok-sorted.ensures.items) c.sort_unstable.ensures.permutation;
      rise = sorted-rise is_place_before places_rank items (record { track = record { cylinder = 0; head = 0 }; slot = 0 })
          (λ k d l h. grind (arith, nat_tests, c.sort_unstable.ensures.sorted k d l h));
    }
