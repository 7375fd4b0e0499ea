use Rattle.fb_wanted.proofs.Words.{◌≡◌, ap, arith, get_or, inl, inr, cases_lt}
use Rattle.fb_wanted.proofs.peaks.greatest_of.Goals as goal

pub loop-i-preserved : goal.loop-i-preserved
loop-i-preserved c =
    let numbers = c.args.numbers.now in (
      λ j from lt. elim (cases_lt j c.loop-i.i) [
        | inl before ↦ omega (arith, c.loop-i.invariant.0 j from before, c.max-greatest.ensures)
        | inr here ↦ let same : j ≡ c.loop-i.i = omega (arith, here, lt) in
            omega (arith, ap (λ k. get_or numbers k 0) same, c.max-greatest.ensures)
      ],
      λ most h. omega (
        arith,
        c.loop-i.invariant.1 most h,
        h c.loop-i.i (omega arith) (omega (arith, c.min-i-end.ensures)),
        c.max-greatest.ensures,
      ),
    )
