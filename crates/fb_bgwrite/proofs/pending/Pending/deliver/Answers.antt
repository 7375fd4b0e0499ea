use Rattle.fb_bgwrite.proofs.Words.{sym, subst, AllByRecursion, AreLight, Entry, IsNoShorter, List}
use Rattle.fb_bgwrite.proofs.Lengths.{delivered_too, still_light}
use Rattle.fb_bgwrite.proofs.pending.Pending.deliver.Goals as goal

pub invariant_of-self : goal.invariant_of-self
invariant_of-self c =
    let old = c.self.inside in
    let bounds = delivered_too old.shortest c.args.put c.args.number old.blocks c.self.invariant.0 in
    let light = still_light c.args.put c.args.number old.blocks c.self.invariant.1 in
    subst (λ (es : List Entry). AllByRecursion (IsNoShorter old.shortest) es × AreLight es) (sym c.deliver.ensures) (bounds, light)
