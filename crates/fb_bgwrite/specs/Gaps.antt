-- The gaps of a run, and which of them are free.
use Rattle.std.specs.Prelude.{◌≡◌, ◌⊎◌, List, [], ◌∷◌, Bool, true, false, ◌||◌, not}
use Rattle.fb_rows.specs.declared.gap.How.{How}
use Rattle.fb_rows.specs.declared.gap.How.TheVariants.{Gap as ByGap}
use Rattle.fb_rows.specs.declared.back.GapRow.{GapRow}
use Rattle.fb_rows.specs.declared.back.BackRow.{BackRow}
use Rattle.fb_rows.specs.declared.back.BackRow.TheVariants.{Gap, Idle, Got}

abbrev pub is_by_gap : How → Bool
is_by_gap ByGap = true
is_by_gap _ = false

-- a stay in the gap before these rows delivered a block: one of the deliveries before the next gap or idle row tells so
abbrev pub delivers : List BackRow → Bool
delivers [] = false
delivers (Gap row ∷ rows) = false
delivers (Idle dwell ∷ rows) = false
delivers (Got row ∷ rows) = is_by_gap row.how || delivers rows
delivers (_ ∷ rows) = delivers rows

-- a gap, and whether nothing was delivered in it
pub record RunGap : Type 0 where
  pub row : GapRow
  pub free : Bool

-- the gaps of a run in order
abbrev pub gaps : List BackRow → List RunGap
gaps [] = []
gaps (Gap row ∷ rows) = record { row = row; free = not (delivers rows) } ∷ gaps rows
gaps (_ ∷ rows) = gaps rows

-- the first of the gaps isn't free, and the rest are the others; or there are no more gaps than the others
abbrev pub HasNoFree : List RunGap → List RunGap → Type 0
HasNoFree all others = (all ≡ others) ⊎ ((row : GapRow) × (all ≡ (let gap : RunGap = record { row = row; free = false } in gap) ∷ others))
