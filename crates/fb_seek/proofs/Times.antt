-- The times of seeks, one distance after another.
use Rattle.std.proofs.Common.{◌≡◌, ℕ, ◌^◌, ◌≤◌, List, [], ◌∷◌, ◌++◌, length, arith, ◌∙◌, ap, inl, inr}
use Rattle.std.proofs.lemmas.List.{get_or_append_left, get_or_push, length-append}
use Rattle.std.proofs.lemmas.Bool.{cases_lt}
use Rattle.fb_seek.specs.Mechanics.{Mechanics}
use Rattle.fb_seek.specs.Positioning.{seek}
use Rattle.fb_seek.specs.Table.{AreTimes}

-- with the time of the next distance they are one more
pub one_more : (arm : Mechanics) (times : List ℕ) → AreTimes arm times → seek arm (length times) ≤ 10 ^ 9
    → AreTimes arm (times ++ seek arm (length times) ∷ [])
one_more arm times are short distance d inside = elim (cases_lt distance (length times)) [
  | inl before ↦ (get_or_append_left times _ d distance before ∙ (are distance d before).0, (are distance d before).1)
  | inr behind ↦
      let last : length times ≡ distance = omega (arith, inside, behind, length-append times (seek arm (length times) ∷ [])) in
      (get_or_push times (seek arm (length times)) d distance last ∙ ap (seek arm) last, rw last at short)
]

-- before the first of them
pub none_yet : (arm : Mechanics) → AreTimes arm []
none_yet arm distance d inside = absurd (omega (arith, inside))
