use Rattle.fb_store.proofs.Words.{sym, ap, subst, ◌∙◌, map, Global, Vec, AllByRecursion, ShortRun, kept_runs, run_of, IsInRange}
use Rattle.fb_units.proofs.Lists.{all_set}
use Rattle.fb_store.proofs.Kept.{short_set}
use Rattle.fb_store.proofs.contents.Contents.set.Goals as goal

pub invariant_of-self-in-Some : goal.invariant_of-self-in-Some
invariant_of-self-in-Some c = subst (AllByRecursion IsInRange)
    (sym (short_set c.deref_mut-in-Some.result.now.items c.args.self.now c.args.i c.in-Some.run' c.args.run
    (ap (λ (v : Vec ShortRun Global). map run_of v.items) c.deref_mut-in-Some.ensures.value
    ∙ (ap kept_runs (sym c.in-Short.is) ∙ c.self.view_is)) c.in-Some.ensures))
    (all_set IsInRange c.args.i c.args.self.now c.args.run (subst (AllByRecursion IsInRange) c.self.view_is c.self.invariant)
    c.requires.range)
