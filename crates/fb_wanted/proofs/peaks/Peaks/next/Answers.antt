use Rattle.fb_wanted.proofs.Words.{◌+◌, ◌*◌, ap, inl, inr, arith, length, get_or, cases_lt}
use Rattle.fb_wanted.proofs.peaks.Peaks.next.Goals as goal

pub returns-clause-there : goal.returns-clause-there
returns-clause-there c = λ within.
    let next = c.first_of.result in
    let group = c.first_of-group.result in
    elim (cases_lt next (group * 64 + 64)) [
      | inl before ↦ omega (
        arith,
        (c.first_of.ensures.there before).1,
        ap (λ xs. get_or xs next 0) c.deref-3.ensures.value,
        ap (λ xs. get_or xs next 0) c.self.view_is,
      )
      | inr past ↦
          let some = c.first_of-group.ensures.there
          (omega (arith, past, within, ap length c.self.view_is, c.len.ensures, c.max-last.ensures)) in
          absurd (omega (
            arith,
            some.1,
            ap (λ xs. get_or xs group 0) c.deref-2.ensures.value,
            c.self.invariant.least group 0 (λ i its. omega (
              arith,
              c.first_of.ensures.before i (omega (arith, its)) (omega (arith, its, past)),
              ap (λ xs. get_or xs i 0) c.deref-3.ensures.value,
            )),
          ))
    ]
