-- Instants one after another.
use Rattle.std.specs.Prelude.{ℕ, ◌≤◌, List, [], ◌∷◌}
use Rattle.std.specs.List.{AllByRecursion}

-- no instant is before one ahead of it in the list
abbrev pub IsRising : List ℕ → Type 0
IsRising [] = Unit {0}
IsRising (instant ∷ instants) = AllByRecursion (λ later. instant ≤ later) instants × IsRising instants
