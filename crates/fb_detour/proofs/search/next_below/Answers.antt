use Rattle.fb_detour.proofs.Words.{ap, arith, get_or, inl, inr, ◌≡◌, cases_lt}
use Rattle.fb_detour.proofs.search.next_below.Goals as goal

pub loop-j-preserved : goal.loop-j-preserved
loop-j-preserved c =
    let keys = c.args.keys.now in
    let old = c.loop-j.invariant in
    let next = c.greater_below-key in (
      λ some. elim next.ensures.either [
        | inl same ↦ omega (arith, same, old.0 (omega (arith, same, some)))
        | inr new ↦ omega (arith, new.0, new.1)
      ],
      λ some. elim next.ensures.either [
        | inl same ↦ let its = old.1 (omega (arith, same, some)) in (its.0, its.1, omega (arith, its.2, same))
        | inr new ↦ (c.loop-j.j, omega (arith, c.loop-j-test.true), omega (arith, new.0))
      ],
      λ i less below. elim (cases_lt i c.loop-j.j) [
        | inl before ↦ omega (arith, old.2 i before below, next.ensures.key)
        | inr here ↦
            let same : i ≡ c.loop-j.j = omega (arith, here, less) in
            let key = ap (λ n. get_or keys n 0) same in
            omega (arith, key, next.ensures.other (omega (arith, key, below)))
      ],
    )
