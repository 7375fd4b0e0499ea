use Rattle.fb_wanted.proofs.Words.{◌∙◌, ap, arith, get_or, refl, [], no_block_on}
use Rattle.fb_wanted.proofs.tracks.Tracks.greatest_on.Goals as goal

pub returns-in-Some-clause-least : goal.returns-in-Some-clause-least
returns-in-Some-clause-least c = λ most all.
    let at = c.in-Some.ensures.lookup.3.1 [] ∙ ap (λ xs. get_or xs c.args.cylinder []) (c.deref.ensures.value ∙ c.self.view_is) in
    c.greatest.ensures.least most (λ h. omega (
      arith,
      ap (λ hs. (get_or hs h no_block_on).weight) at,
      all (record { cylinder = c.args.cylinder; head = h }) refl,
    ))
