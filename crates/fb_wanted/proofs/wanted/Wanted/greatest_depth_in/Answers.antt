use Rattle.fb_wanted.proofs.Words.{◌≤◌, ◌/◌, arith, subst, depth_at}
use Rattle.fb_wanted.proofs.Deep.{depth-le_band}
use Rattle.fb_wanted.proofs.wanted.Wanted.greatest_depth_in.Goals as goal

pub returns-clause-each : goal.returns-clause-each
returns-clause-each c = λ track lbn from lt.
    let items = c.self.inside.entries.items in
    let band = track.cylinder / 64 in
    let bound = c.most_among.ensures.each band (omega (arith, from)) (omega (arith, lt)) in
    let le : depth_at track lbn items ≤ c.most_among.result =
    omega (arith, bound, (c.self.invariant.3.bounds band).most lbn, depth-le_band track lbn items) in
    subst (λ es. depth_at track lbn es ≤ c.most_among.result) c.self.view_is le

pub returns-clause-small : goal.returns-clause-small
returns-clause-small c = c.most_among.ensures.least 16000000000
    (λ k from lt. omega (arith, (c.self.invariant.3.bounds k).small, c.self.invariant.0.few))
