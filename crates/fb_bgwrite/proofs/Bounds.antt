-- Bounds that are lowered for a cylinder, and for the 32 to which it belongs.
use Rattle.fb_bgwrite.proofs.Words.{◌≡◌, ℕ, ◌/◌, ◌==◌, ◌≤◌, List, true, Result, Ok, Err, OnOk, OnErr, get_or, min, inl, inr, subst, arith}
use Rattle.fb_bgwrite.proofs.Words.{if◌then◌else◌, cases_Bool, nat_tests, IsUnder}

abbrev pub IsLowered : List ℕ → List ℕ → ℕ → ℕ → Type 0
IsLowered old new index sectors = (k : ℕ) → get_or new k 2049 ≡ (if index == k then min (get_or old k 2049) sectors else get_or old k 2049)

pub no_greater_than : (old new : List ℕ) (index sectors k : ℕ) → IsLowered old new index sectors → get_or new k 2049 ≤ get_or old k 2049
no_greater_than old new index sectors k is = elim (cases_Bool (index == k)) [
  | inl here ↦ let new_is : get_or new k 2049 ≡ min (get_or old k 2049) sectors = rw here at (is k) in omega (arith, new_is)
  | inr other ↦ let new_is : get_or new k 2049 ≡ get_or old k 2049 = rw other at (is k) in omega (arith, new_is)
]

-- the upper bounds alone are lowered
pub under_lowered : (upper new_upper lower : List ℕ) (index sectors : ℕ) → IsUnder upper lower → IsLowered upper new_upper index sectors
    → IsUnder new_upper lower
under_lowered upper new_upper lower index sectors under is =
    λ k. omega (arith, under k, no_greater_than upper new_upper index sectors (k / 32) is)

-- both are lowered
pub both_lowered : (upper new_upper lower new_lower : List ℕ) (index sectors : ℕ) → IsUnder upper lower
    → IsLowered upper new_upper (index / 32) sectors → IsLowered lower new_lower index sectors
    → IsUnder new_upper new_lower
both_lowered upper new_upper lower new_lower index sectors under above below = λ k. elim (cases_Bool (index == k)) [
  | inl here ↦
      let same : index ≡ k = grind (arith, nat_tests) in
      let group : (index / 32 == k / 32) ≡ true = subst (λ n. (index / 32 == n / 32) ≡ true) same (grind (arith, nat_tests)) in
      let low : get_or new_lower k 2049 ≡ min (get_or lower k 2049) sectors = rw here at (below k) in
      let high : get_or new_upper (k / 32) 2049 ≡ min (get_or upper (k / 32) 2049) sectors = rw group at (above (k / 32)) in
      omega (arith, low, high, under k)
  | inr other ↦
      let low : get_or new_lower k 2049 ≡ get_or lower k 2049 = rw other at (below k) in
      omega (arith, low, under k, no_greater_than upper new_upper (index / 32) sectors (k / 32) above)
]

-- the lower bounds only where there was memory
pub either_lowered : {A E : Type 0} (r : Result A E) (upper new_upper lower new_lower : List ℕ) (index sectors : ℕ) → IsUnder upper lower
    → IsLowered upper new_upper (index / 32) sectors
    → OnOk r (IsLowered lower new_lower index sectors) → OnErr r ((k : ℕ) → get_or new_lower k 2049 ≡ get_or lower k 2049)
    → IsUnder new_upper new_lower
either_lowered (Ok x) upper new_upper lower new_lower index sectors under above ok err =
    both_lowered upper new_upper lower new_lower index sectors under above ok
either_lowered (Err x) upper new_upper lower new_lower index sectors under above ok err =
    λ k. omega (arith, under_lowered upper new_upper lower (index / 32) sectors under above k, err k)
