use Rattle.fb_check.proofs.Words.{◌≡◌, ◌≢◌, ℕ, List, ◌++◌, true≢false, ap, sym, ◌∙◌, None, Some, Decides-eqb, MatchOption-at_some}
use Rattle.fb_check.proofs.Words.{strip_prefix_is}
use Rattle.fb_check.proofs.Joined.{first_left, first_other, more_left, more_other}
use Rattle.fb_check.proofs.fields.are_joined.Goals as goal

pub loop-i-init : goal.loop-i-init
loop-i-init c =
    let first = c.as_slice.result.now in
    let text = c.args.text.now in
    first_left c.args.fields.now text first (c.get.ensures ∙ ap Some (sym c.as_slice.ensures)) c.in-Some.rest.now
    (MatchOption-at_some _ (λ rest. text ≡ first ++ rest.now) c.in-Some.rest c.in-Some.is
    (strip_prefix_is Decides-eqb text first c.strip_prefix.result c.strip_prefix.ensures.cases))

pub loop-i-preserved : goal.loop-i-preserved
loop-i-preserved c =
    more_left c.args.fields.now c.args.text.now c.loop-i.rest.now c.loop-i.i c.loop-i.invariant c.as_slice-in-loop-i.result.now
    (c.get-in-loop-i.ensures ∙ ap Some (sym c.as_slice-in-loop-i.ensures)) c.in-Some-behind_field.behind.now c.in-Some-behind_field.ensures

pub returns-in_default : goal.returns-in_default
returns-in_default c =
    let first = c.as_slice.result.now in
    let other : (rest : List ℕ) → c.args.text.now ≢ first ++ rest =
    strip_prefix_is Decides-eqb c.args.text.now first None c.in_default.ensures.cases in (
      λ yes. absurd (true≢false (sym yes)),
      λ e. absurd (first_other c.args.fields.now c.args.text.now first (c.get.ensures ∙ ap Some (sym c.as_slice.ensures)) other e),
    )

pub returns-in-None : goal.returns-in-None
returns-in-None c = (
  λ yes. absurd (true≢false (sym yes)),
  λ e. absurd (more_other c.args.fields.now c.args.text.now c.loop-i.rest.now c.loop-i.i c.loop-i.invariant c.as_slice-in-loop-i.result.now
      (c.get-in-loop-i.ensures ∙ ap Some (sym c.as_slice-in-loop-i.ensures)) c.in-None.ensures e),
)
