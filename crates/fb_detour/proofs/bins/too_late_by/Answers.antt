use Rattle.fb_detour.proofs.Words.{arith, get_or, inl, inr, subst, ◌-◌, ◌≡◌, ◌≤◌, cases_lt, bin_at}
use Rattle.fb_detour.proofs.Binned.{no_earlier_bin}
use Rattle.fb_detour.proofs.bins.too_late_by.Goals as goal

pub returns-then-latest-leaves : goal.returns-then-latest-leaves
returns-then-latest-leaves c = λ leave after noted by.
    let leaves = c.args.leaves.now in
    let k = c.bin_at-k.result in
    let own = bin_at leaves.grid leave in
    let no_later = no_earlier_bin leaves.grid leave (c.args.last - leaves.move_on) (omega (arith, by)) in
    elim (cases_lt own k) [
      | inl less ↦ omega (arith, less, c.bin_at-k.ensures.within)
      | inr more ↦
          let same : own ≡ k = omega (arith, more, no_later, c.bin_at-k.ensures.value) in
          let first : get_or leaves.firsts.now k 0 ≤ leave = subst (λ j. get_or leaves.firsts.now j 0 ≤ leave) same noted in
          absurd (omega (arith, first, by, c.if-latest-leaves.true))
    ]

pub returns : goal.returns
returns c = λ leave after noted by.
    let leaves = c.args.leaves.now in
    let no_later = no_earlier_bin leaves.grid leave (c.args.last - leaves.move_on) (omega (arith, by)) in
    omega (arith, no_later, c.bin_at-k.ensures.value, c.bin_at-k.ensures.within)
