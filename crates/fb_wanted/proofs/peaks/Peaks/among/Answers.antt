use Rattle.std.proofs.Common.{ℕ, ◌≤◌, ◌<◌, ap, arith, get_or}
use Rattle.fb_wanted.proofs.peaks.Peaks.among.Goals as goal

pub returns-clause-least : goal.returns-clause-least
returns-clause-least c = λ most all.
    let at : (i : ℕ) → c.args.from ≤ i → i < c.args.end → get_or c.self.inside.numbers.items i 0 ≤ most
    = λ i from lt. omega (arith, ap (λ xs. get_or xs i 0) c.self.view_is, all i from lt) in
    let before = c.greatest_of-before.ensures.least most (λ i from lt.
    omega (arith, ap (λ xs. get_or xs i 0) c.deref-2.ensures.value, at i from (omega (arith, lt, c.if-first-last.false)))) in
    let behind = c.greatest_of-behind.ensures.least most (λ i from lt.
    omega (arith, ap (λ xs. get_or xs i 0) c.deref-3.ensures.value, at i (omega (arith, from, c.if-first-last.false)) lt)) in
    let within = c.greatest_of-2.ensures.least most (λ k from lt. omega (
      arith,
      ap (λ xs. get_or xs k 0) c.deref-4.ensures.value,
      c.self.invariant.least k most (λ i its. at i (omega (arith, its, from)) (omega (arith, its, lt))),
    )) in
    omega (arith, before, behind, within, c.max.ensures, c.max-2.ensures)
