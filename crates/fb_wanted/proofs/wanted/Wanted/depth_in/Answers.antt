use Rattle.fb_wanted.proofs.Words.{◌≤◌, ap, subst, arith, depth_at, band_depth}
use Rattle.fb_wanted.proofs.Deep.{depth-le_band}
use Rattle.fb_wanted.proofs.wanted.Wanted.depth_in.Goals as goal

pub returns-clause-deep : goal.returns-clause-deep
returns-clause-deep c = λ track lbn its.
    let items = c.self.inside.entries.items in
    let band = ap (λ b. band_depth b lbn items) its in
    let le : depth_at track lbn items ≤ c.most_in.result =
    omega (arith, c.most_in.ensures, (c.self.invariant.3.bounds c.args.band).most lbn, band, depth-le_band track lbn items) in
    subst (λ es. depth_at track lbn es ≤ c.most_in.result) c.self.view_is le

pub returns-clause-small : goal.returns-clause-small
returns-clause-small c =
    omega (arith, c.most_in.ensures, (c.self.invariant.3.bounds c.args.band).small, c.self.invariant.0.few)
