use Rattle.fb_geometry.proofs.Words.{YieldsList-from_slice, is_too_skewed, position_from_yields_List, rules, sym, tests, ◌∙◌}
use Rattle.fb_geometry.proofs.outline.Outline.first_skewed.Goals as goal

pub returns-in-Some : goal.returns-in-Some
returns-in-Some c = sym c.in-Some.is ∙ position_from_yields_List is_too_skewed _ _ _ c.position.ensures.ran
    (YieldsList-from_slice c.args.self.now.zones cc) (λ x b q k. search (rules, tests))

pub returns-in-None : goal.returns-in-None
returns-in-None c = sym c.in-None.is ∙ position_from_yields_List is_too_skewed _ _ _ c.position.ensures.ran
    (YieldsList-from_slice c.args.self.now.zones cc) (λ x b q k. search (rules, tests))
