use Rattle.fb_wanted.proofs.Words.{◌<◌, ap, sym, subst, arith, get_or, length, ◌/◌, get_or_default_zero}
use Rattle.fb_wanted.proofs.Cylinders.{peaks_set}
use Rattle.fb_wanted.proofs.peaks.Peaks.set.Goals as goal

pub invariant_of-self : goal.invariant_of-self
invariant_of-self c =
    let numbers = c.self.inside.numbers.items in
    let groups = c.self.inside.groups.items in
    let room = subst (λ xs. c.args.index < length xs) (sym c.self.view_is) c.requires in
    let was = get_or_default_zero numbers c.args.index c.index-was.result.now room in
    let top = get_or_default_zero groups (c.args.index / 64) c.index-greatest.result.now (c.self.invariant.there c.args.index room) in
    peaks_set numbers groups c.args.index c.args.number c.greatest_anew.result c.self.invariant room
    (λ k its. omega (arith, ap (λ xs. get_or xs k 0) c.deref.ensures.value, c.greatest_anew.ensures.each k its))
    (λ most above less all. c.greatest_anew.ensures.least most above
    (λ lt. omega (
      arith,
      less (omega (arith, lt, c.index-was.ensures, was, c.index-greatest.ensures, top)),
      c.index-greatest.ensures,
      top,
    ))
    (λ k its. omega (arith, ap (λ xs. get_or xs k 0) c.deref.ensures.value, all k its)))
