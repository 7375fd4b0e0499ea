-- Into which interval of the time on a track a passage goes.
use Rattle.fb_detour.proofs.Words.{ap, arith, if◌then◌else◌, inl, inr, nat_le, nat_lt, ℕ, ◌*◌, ◌+◌, ◌-◌, ◌/◌, ◌<◌, ◌∙◌, ◌≡◌, ◌≤◌}
use Rattle.fb_detour.proofs.Words.{div-lt_iff_lt-mul, cases_lt, nat_tests, Offer, added, end_of, passes_by, Turning}

-- an instant comes by the end of the first interval that isn't over before it, and of each later one
by_interval : (begin end step k : ℕ) → begin ≤ end → 0 < step
    → nat_lt ((end - begin - 1) / step) (k + 1) ≡ nat_le end (begin + (k + 1) * step)
by_interval begin end step k later some =
    let over = div-lt_iff_lt-mul {x = end - begin - 1} {y = k + 1} some in
    let long : step ≤ (k + 1) * step = omega arith in
    elim (cases_lt (end - begin - 1) ((k + 1) * step)) [
      | inl by ↦ let first = over.1 by in grind (arith, nat_tests)
      | inr after ↦ let first : (k + 1) ≤ (end - begin - 1) / step = elim (cases_lt ((end - begin - 1) / step) (k + 1)) [
        | inl less ↦ absurd (omega (arith, over.0 less, after))
        | inr more ↦ more
      ] in grind (arith, nat_tests)
    ]

-- what an offer adds up to the end of an interval
pub gain-interval : (turning : Turning) (past step k : ℕ) (o : Offer)
    → past ≡ end_of turning.rotation o.sweep turning.from - turning.from - 1 → 0 < step
    → (if nat_lt (past / step) (k + 1) then o.worth else 0) ≡ added (passes_by turning (turning.from + (k + 1) * step)) o
gain-interval turning past step k o is some =
    ap (λ n. if nat_lt (n / step) (k + 1) then o.worth else 0) is
    ∙ ap (λ b. if b then o.worth else 0)
    (by_interval turning.from (end_of turning.rotation o.sweep turning.from) step k (omega arith) some)
