-- Contents that are taken over others.
use Rattle.std.proofs.Common.{◌≡◌, ℕ, List, [], ◌∷◌, Option, Some, None, Bool, true, false, cond, refl, sym, ap, ◌∙◌, ◌==◌}
use Rattle.fb_store.specs.declared.content.Content.{Content}
use Rattle.fb_store.specs.Sparse.{after_taking}

-- the first content, or the second where there is none
abbrev pub over : Option Content → Option Content → Option Content
over None before = before
over (Some content) before = Some content

one_over : (here : Bool) (content : Content) (top before : Option Content)
    → over top (cond here (Some content) before) ≡ over (over top (cond here (Some content) None)) before
one_over true content None before = refl
one_over true content (Some other) before = refl
one_over false content None before = refl
one_over false content (Some other) before = refl

-- what is taken stands over what was held before
pub taken_over : (sectors : List (ℕ × Content)) (lbn : ℕ) (before : Option Content)
    → after_taking sectors lbn before ≡ over (after_taking sectors lbn None) before
taken_over [] lbn before = refl
taken_over (sector ∷ sectors) lbn before =
    let here = sector.0 == lbn in
    taken_over sectors lbn (cond here (Some sector.1) before)
    ∙ one_over here sector.1 (after_taking sectors lbn None) before
    ∙ ap (λ top. over top before) (sym (taken_over sectors lbn (cond here (Some sector.1) None)))
