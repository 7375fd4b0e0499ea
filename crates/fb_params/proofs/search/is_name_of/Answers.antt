use Rattle.fb_units.proofs.Alike.{list_any-map}
use Rattle.fb_params.proofs.Words.{rules, tests, bytes_eq, YieldsList-from_slice, any_from_yields_List}
use Rattle.fb_params.specs.declared.key.Key.{Key}
use Rattle.fb_params.proofs.search.is_name_of.Goals as goal

pub returns : goal.returns
returns c =
    rw list_any-map
    (any_from_yields_List (λ (key : Key). bytes_eq key.name.now c.args.name.now) _ _ _ c.any.ensures.ran
    (YieldsList-from_slice c.args.known.now cc) (λ x b q k. search (rules, tests)))
