-- What is left of an input.
use Rattle.std.proofs.Common.{◌≡◌, ◌∙◌, ℕ, List, ◌++◌, Option, Some, None, refl, ap, subst}
use Rattle.std.specs.Prelude.{IfSome}
use Rattle.fb_desk.specs.Calls.{before}
use Rattle.fb_streams.specs.Streams.{IsLeftOf}

-- what was read and what is left are what is held
pub left_here : (bytes : List ℕ) (left held : Option (List ℕ)) → before bytes left ≡ held → IsLeftOf held left
left_here bytes None held e = tt
left_here bytes (Some rest) held e =
    subst (λ (told : Option (List ℕ)). IfSome told (λ all. (taken : List ℕ) × (taken ++ rest ≡ all))) e (bytes, refl)

-- also where a read failed behind it
pub left_kept : (bytes : List ℕ) (left now held : Option (List ℕ)) → now ≡ left → before bytes left ≡ held → IsLeftOf held now
left_kept bytes left now held same e = left_here bytes now held (ap (before bytes) same ∙ e)
