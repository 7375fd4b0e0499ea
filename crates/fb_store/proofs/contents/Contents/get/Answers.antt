use Rattle.fb_store.proofs.Words.{◌<◌, Some, slice_get, arith, refl, sym, ap, subst, ◌∙◌, get_or, length, Global, Vec, AllByRecursion}
use Rattle.fb_store.proofs.Words.{ContentRun, ShortRun, kept_runs, run_of, IsInRange}
use Rattle.std.proofs.lemmas.Option.{slice_get_read}
use Rattle.std.proofs.lemmas.List.{length-map}
use Rattle.fb_units.proofs.Lists.{all_get, map_at}
use Rattle.fb_store.proofs.contents.Contents.get.Goals as goal

pub returns-in-Short-clause-value : goal.returns-in-Short-clause-value
returns-in-Short-clause-value c =
    let short = c.index.result.now in
    let kept = c.in-Short.runs.value.items in
    let is = ap kept_runs (sym c.in-Short.is) ∙ c.self.view_is in
    let within : c.args.i < length kept = omega (arith, c.requires, ap length is, length-map kept run_of) in
    let at = slice_get_read kept (length kept) c.args.i short refl within
    (c.index.ensures ∙ ap (λ (v : Vec ShortRun Global). get_or v.items c.args.i short) c.deref.ensures) in
    ap (λ runs. slice_get runs c.args.i) (sym is) ∙ (map_at run_of kept c.args.i short at ∙ ap Some (sym c.run_of.ensures))

pub returns-in-Short-clause-range : goal.returns-in-Short-clause-range
returns-in-Short-clause-range c = all_get IsInRange c.args.self.now c.args.i c.run_of.result
    (subst (AllByRecursion IsInRange) c.self.view_is c.self.invariant) (returns-in-Short-clause-value c)

pub returns-in-Listed-clause-value : goal.returns-in-Listed-clause-value
returns-in-Listed-clause-value c =
    let run = c.index-in-Listed.result.now in
    slice_get_read c.args.self.now (length c.args.self.now) c.args.i run refl c.requires
    (c.index-in-Listed.ensures ∙ (ap (λ (v : Vec ContentRun Global). get_or v.items c.args.i run) c.deref-in-Listed.ensures
    ∙ ap (λ runs. get_or runs c.args.i run) (ap kept_runs (sym c.in-Listed.is) ∙ c.self.view_is)))
