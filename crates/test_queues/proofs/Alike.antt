-- What is left after a request is taken.
use Rattle.std.proofs.Common.{◌≡◌, ℕ, List, [], ◌∷◌, Option, Some, None, IfSome, subst, inl, inr}
use Rattle.std.specs.Prelude.{nat_le}
use Rattle.std.specs.List.{AllByRecursion}
use Rattle.std.proofs.lemmas.Bool.{cases_Bool}
use Rattle.fb_units.specs.declared.types.Request.{Request}
use Rattle.fb_model.specs.PlainReplay.{first_least, better}

module _ (P : Request → Type 0) (key : Request → ℕ) where
  left_of_better : (r : Request) (rs : List Request) (best : Option (Request × List Request)) → P r → AllByRecursion P rs
      → IfSome best (λ b. AllByRecursion P b.1) → IfSome (better key r rs best) (λ b. AllByRecursion P b.1)
  left_of_better r rs None own all h = all
  left_of_better r rs (Some b) own all h =
      elim (cases_Bool (nat_le (key r) (key b.0))) [ inl yes' ↦ rw yes' all | inr no' ↦ rw no' (own, h) ]

  left_all : (rs : List Request) → AllByRecursion P rs → IfSome (first_least key rs) (λ b. AllByRecursion P b.1)
  left_all [] all = tt
  left_all (r ∷ rs) all = left_of_better r rs (first_least key rs) all.0 all.1 (left_all rs all.1)

  -- what holds of all holds of the others
  pub all_others : (rs others : List Request) (r : Request) → first_least key rs ≡ Some (r, others) → AllByRecursion P rs
      → AllByRecursion P others
  all_others rs others r e all = subst (λ (o : Option (Request × List Request)). IfSome o (λ b. AllByRecursion P b.1)) e (left_all rs all)
