use Rattle.fb_wanted.proofs.Words.{◌≡◌, ◌∙◌, max, ap, arith, get_or, inl, inr, cases_lt, get_or_default, no_block_on}
use Rattle.fb_wanted.proofs.heads.greatest.Goals as goal

pub loop-i-preserved : goal.loop-i-preserved
loop-i-preserved c =
    let tracks = c.args.tracks.now in
    let here = ap (λ o. o.weight) (get_or_default tracks c.loop-i.i c.index-tracks-i.result no_block_on c.loop-i-test.true) in
    let is : c.weight.result ≡ (get_or tracks c.loop-i.i no_block_on).weight = c.weight.ensures ∙ (ap
    (λ o. o.weight) c.index-tracks-i.is ∙ here) in
    let most_is : c.max-greatest.result ≡ max c.loop-i.greatest c.weight.result = c.max-greatest.ensures in (
      λ h lt. elim (cases_lt h c.loop-i.i) [
        | inl before ↦ omega (arith, c.loop-i.invariant.0 h before, most_is)
        | inr last ↦ let same : h ≡ c.loop-i.i = omega (arith, last, lt) in omega (
          arith,
          ap (λ k.
              (get_or tracks k no_block_on).weight) same,
          is,
          most_is,
        )
      ],
      λ most all. omega (arith, c.loop-i.invariant.1 most all, all c.loop-i.i, is, most_is),
    )
