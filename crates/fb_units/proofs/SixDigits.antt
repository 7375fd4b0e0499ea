-- The first six digits, with zeros for those that are missing.
use Rattle.std.proofs.Common.{◌≡◌, ℕ, ◌-◌, ◌<◌, List, ◌++◌, length, get_or, replicate, inl, inr, refl, sym, ◌∙◌, arith}
use Rattle.std.proofs.lemmas.List.{get_or-take, get_or_append_left, get_or-append_right, get_or-replicate, get_or_past, get_or_default}
use Rattle.std.proofs.lemmas.List.{length-take-le, length-append}
use Rattle.std.proofs.lemmas.Bool.{cases_lt}
use Rattle.fb_units.specs.Numbers.{six_of}

pub length-six_of : (cs : List ℕ) → length (six_of cs) ≡ 6
length-six_of cs = length-take-le 6 (cs ++ replicate 6 48) (omega (arith, length-append cs (replicate 6 48)))

padded : (cs : List ℕ) (i d : ℕ) → i < 6 → get_or (cs ++ replicate 6 48) i d ≡ get_or cs i 48
padded cs i d h = elim (cases_lt i (length cs)) [
  | inl k ↦ get_or_append_left cs (replicate 6 48) d i k ∙ get_or_default cs i d 48 k
  | inr k ↦ get_or-append_right cs (replicate 6 48) (length cs) i d refl k ∙ get_or-replicate 6 (i - length cs) 48 d (omega arith)
      ∙ sym (get_or_past cs i 48 k)
]

pub get_or-six_of : (cs : List ℕ) (i d : ℕ) → i < 6 → get_or (six_of cs) i d ≡ get_or cs i 48
get_or-six_of cs i d h = get_or-take 6 (cs ++ replicate 6 48) i d h ∙ padded cs i d h
