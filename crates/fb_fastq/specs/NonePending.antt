-- Where none is pending, none waits.
use Rattle.std.specs.Prelude.{◌≡◌, List, [], ◌∷◌, ◌++◌, refl, Bool, true, false, nat_lt, map, if◌then◌else◌}
use Rattle.std.specs.List.{AllByRecursion}
use Rattle.std.proofs.Common.{subst}
use Rattle.fb_units.specs.declared.types.Request.{Request}
use Rattle.fb_fastq.specs.Joining.{Waiting, number_of, join_in, in_order, pending_of}

abbrev IsSome : List Request → Type 0
IsSome [] = ⊥
IsSome (r ∷ rs) = Unit {0}

some_joined : (w : Waiting) (ws : List Waiting) → map (λ x. x.1) (join_in w ws) ≡ [] → ⊥
some_joined w [] none = subst IsSome none tt
some_joined w (x ∷ ws) none = either (nat_lt (number_of w) (number_of x)) none
  where
    either : (b : Bool) → map (λ y. y.1) (if b then w ∷ x ∷ ws else x ∷ join_in w ws) ≡ [] → ⊥
    either true e = subst IsSome e tt
    either false e = subst IsSome e tt

pub all_of_none : (P : Waiting → Type 0) (ws : List Waiting) → pending_of ws ≡ [] → AllByRecursion P ws
all_of_none P [] none = tt
all_of_none P (w ∷ ws) none = absurd (some_joined w (in_order ws) none)

-- where two lists have none, the first has none
pub none_left : (xs ys : List Request) → xs ++ ys ≡ [] → xs ≡ []
none_left [] ys none = refl
none_left (x ∷ xs) ys none = absurd (subst IsSome none tt)
