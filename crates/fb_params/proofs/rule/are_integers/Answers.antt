use Rattle.fb_params.proofs.Words.{rules, tests, YieldsList-from_slice, all_from_yields_List, list_all-map, view, is_integer}
use Rattle.fb_params.proofs.rule.are_integers.Goals as goal

pub returns : goal.returns
returns c =
    rw list_all-map
    (all_from_yields_List (λ value. is_integer (view value)) _ _ _ c.all.ensures.ran (YieldsList-from_slice c.args.values.now cc)
    (λ x b q k. search (rules, tests)))
