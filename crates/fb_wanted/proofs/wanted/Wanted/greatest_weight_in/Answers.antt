use Rattle.fb_wanted.proofs.Words.{◌≤◌, arith, subst, wanted_weight}
use Rattle.fb_wanted.proofs.Reading.{weight_read}
use Rattle.fb_wanted.proofs.wanted.Wanted.greatest_weight_in.Goals as goal

pub returns-clause-each : goal.returns-clause-each
returns-clause-each c = λ track low high.
    let items = c.self.inside.entries.items in
    let weight = weight_read items c.self.inside.tasks.items c.self.inside.tracks c.self.invariant.0 track in
    let le : wanted_weight track items ≤ c.among.result =
    omega (arith, weight, c.self.invariant.2.weights track, c.among.ensures.each track.cylinder low high) in
    subst (λ es. wanted_weight track es ≤ c.among.result) c.self.view_is le
