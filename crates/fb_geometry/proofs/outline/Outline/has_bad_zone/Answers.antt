use Rattle.fb_geometry.proofs.Words.{YieldsList-from_slice, any_from_yields_List, is_bad_zone, rules, tests}
use Rattle.fb_geometry.proofs.outline.Outline.has_bad_zone.Goals as goal

pub returns : goal.returns
returns c = any_from_yields_List (is_bad_zone c.args.self.now) _ _ _ c.any.ensures.ran (YieldsList-from_slice c.args.self.now.zones cc)
    (λ x b q k. search (rules, tests))
