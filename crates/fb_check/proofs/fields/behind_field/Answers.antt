use Rattle.fb_check.proofs.Words.{◌≡◌, ◌≢◌, ℕ, List, [], ◌∷◌, ◌++◌, ap, sym, ◌∙◌, Option, Some, None, Decides-eqb, append_cancel_left}
use Rattle.fb_check.proofs.Words.{MatchOption-at_some, strip_prefix_is}
use Rattle.std.proofs.Common.{Bor}
use Rattle.std.specs.Prelude.{MatchOption}
use Rattle.fb_check.proofs.fields.behind_field.Goals as goal

-- what stands behind a field that stands behind a space
behind_space : (text behind field : List ℕ) (rest : Option (Bor (List ℕ))) → text ≡ 32 ∷ behind
    → MatchOption rest ((others : List ℕ) → behind ≢ field ++ others) (λ rest. behind ≡ field ++ rest.now)
    → MatchOption rest ((others : List ℕ) → text ≢ 32 ∷ (field ++ others)) (λ rest. text ≡ 32 ∷ (field ++ rest.now))
behind_space text behind field None e other = λ others same. other others (append_cancel_left (32 ∷ []) behind (field ++ others) (sym e ∙ same))
behind_space text behind field (Some rest) e is = e ∙ ap (λ bytes. 32 ∷ bytes) is

pub returns : goal.returns
returns c =
    let behind = c.in_ok-behind.behind.now in
    let space = strip_prefix_is Decides-eqb c.args.text.now (32 ∷ []) c.strip_prefix.result c.strip_prefix.ensures.cases in
    behind_space c.args.text.now behind c.args.field.now c.strip_prefix-2.result
    (MatchOption-at_some _ (λ rest. c.args.text.now ≡ 32 ∷ rest.now) c.in_ok-behind.behind c.in_ok-behind.was space)
    (strip_prefix_is Decides-eqb behind c.args.field.now c.strip_prefix-2.result c.strip_prefix-2.ensures.cases)
