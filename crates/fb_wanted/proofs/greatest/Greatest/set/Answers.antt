use Rattle.fb_wanted.proofs.Words.{◌<◌, ap, sym, subst, inl, inr, arith, get_or, set, length, cases_eq, get_or-set_at, get_or_default_zero}
use Rattle.fb_wanted.proofs.Words.{get_or-set_other, ArePeaks}
use Rattle.fb_wanted.proofs.Cylinders.{peaks_set}
use Rattle.fb_wanted.proofs.greatest.Greatest.set.Goals as goal

pub invariant_of-self : goal.invariant_of-self
invariant_of-self c =
    let cylinders = c.self.inside.cylinders.items in
    let room = subst (λ xs. c.args.cylinder < length xs) (sym c.self.view_is) c.requires.there in
    let was = get_or_default_zero cylinders c.args.cylinder c.index-was.result.now room in (
      subst (ArePeaks (set cylinders c.args.cylinder c.args.weight)) (sym c.set.ensures)
          (peaks_set cylinders c.self.inside.bands c.args.cylinder c.args.weight c.greatest_anew-anew.result c.self.invariant.0 room
          (λ k its. omega (arith, ap (λ xs. get_or xs k 0) c.deref.ensures.value, c.greatest_anew-anew.ensures.each k its))
          (λ most above less all. c.greatest_anew-anew.ensures.least most above
          (λ lt. omega (arith, less (omega (arith, lt, c.index-was.ensures, was, c.at-greatest.ensures)), c.at-greatest.ensures))
          (λ k its. omega (arith, ap (λ xs. get_or xs k 0) c.deref.ensures.value, all k its)))),
      λ k. elim (cases_eq k c.args.cylinder) [
        | inl here ↦ omega (arith, get_or-set_at cylinders c.args.cylinder k c.args.weight 0 here room, c.requires.small)
        | inr other ↦ omega (arith, get_or-set_other cylinders c.args.cylinder k c.args.weight 0 other, c.self.invariant.1 k)
      ],
    )
