-- Slipping past numbers that are passed over: a number moves on by one for each of them at or before it.
use Rattle.std.specs.Prelude.{◌≡◌, ℕ, ◌+◌, ◌-◌, ◌<◌, ◌≤◌, ◌==◌, ◌⊎◌, Some, slice_get, List, [], ◌∷◌, Bool, true, false, nat_lt}
use Rattle.std.specs.Prelude.{if◌then◌else◌, length, filter}
use Rattle.std.specs.List.{AllByRecursion, list_any}

-- each element stands so to all that follow
abbrev pub Pairwise : {A : Type 0} → (A → A → Type 0) → List A → Type 0
Pairwise R [] = Unit {0}
Pairwise R (x ∷ xs) = AllByRecursion (R x) xs × Pairwise R xs

-- each number is below all that follow
abbrev pub IsAscending : List ℕ → Type 0
IsAscending numbers = Pairwise (λ number later. number < later) numbers

-- where a number slips to, past these numbers in ascending order
abbrev pub slipped : ℕ → List ℕ → ℕ
slipped number [] = number
slipped number (passed ∷ numbers) = if nat_lt number passed then number else slipped (number + 1) numbers

-- how many of these numbers are below a number
abbrev pub rank : ℕ → List ℕ → ℕ
rank number numbers = length (filter (λ passed. nat_lt passed number) numbers)

-- the index and these indexes, or these indexes alone
abbrev pub with_index : Bool → ℕ → List ℕ → List ℕ
with_index true index indexes = index ∷ indexes
with_index false index indexes = indexes

-- the indexes of the elements that pass; the first element has this index
abbrev pub indexes : {A : Type 0} → (A → Bool) → ℕ → List A → List ℕ
indexes passes index [] = []
indexes passes index (x ∷ xs) = with_index (passes x) index (indexes passes (index + 1) xs)

-- the entry of a sector: the first entries hold the sectors in order, but each marked one has moved to the next unmarked entry behind them
abbrev pub entry_of_sector : List ℕ → ℕ → ℕ → ℕ
entry_of_sector marked sectors sector =
    if list_any (λ other. other == sector) marked then slipped (sectors - rank sectors marked + rank sector marked) marked else sector

-- an entry of such a list holds no sector: it is marked, or an unmarked one behind all that are in use
abbrev pub HoldsNone : List ℕ → ℕ → ℕ → Type 0
HoldsNone marked sectors entry = (list_any (λ other. other == entry) marked ≡ true) ⊎ (sectors ≤ entry - rank entry marked)

-- an entry of such a list holds its own sector, or that of the marked entry which it stands in for
abbrev pub HoldsSector : List ℕ → ℕ → ℕ → ℕ → Type 0
HoldsSector marked sectors entry sector = (list_any (λ other. other == entry) marked ≡ false)
    × (((entry < sectors) × (sector ≡ entry))
    ⊎ ((sectors ≤ entry) × (entry - rank entry marked < sectors)
    × (slice_get marked (entry - rank entry marked - (sectors - rank sectors marked)) ≡ Some sector)))
