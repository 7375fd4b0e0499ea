-- Elements of lists, by index.
use Rattle.std.proofs.Common.{◌≡◌, ◌∙◌, ℕ, ◌<◌, List, [], ◌∷◌, ◌++◌, length, sym, ap, arith, Some}
use Rattle.std.specs.Prelude.{slice_get}
use Rattle.std.specs.List.{range_with_len}
use Rattle.fb_units.proofs.Each.{each_push}
use Rattle.fb_units.proofs.Parts.{get_range}

-- what holds of each element, and of one more at the end
pub each_more : {X : Type 0} (P : ℕ → X → Type 0) (xs ys : List X) (y : X) → ys ≡ xs ++ y ∷ []
    → ((i : ℕ) (x : X) → slice_get xs i ≡ Some x → P i x) → P (length xs) y → (i : ℕ) (x : X) → slice_get ys i ≡ Some x → P i x
each_more P xs ys y more each last i x at = each_push P xs y last each i x (sym (ap (λ all. slice_get all i) more) ∙ at)

-- the i-th number below n is i
pub counted : (n i : ℕ) → i < n → slice_get (range_with_len 0 n) i ≡ Some i
counted n i inside = get_range 0 n i inside ∙ ap Some (omega arith)
