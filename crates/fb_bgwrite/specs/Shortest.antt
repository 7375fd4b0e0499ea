-- How short the pending blocks of cylinders are. A bound is 2,049 where no block is pending.
use Rattle.std.specs.Prelude.{◌≡◌, ℕ, ◌/◌, ◌<◌, ◌≤◌, List, true, get_or}
use Rattle.std.specs.List.{AllByRecursion}
use Rattle.fb_wanted.specs.declared.block.Entry.{Entry}
use Rattle.fb_wanted.specs.States.{is_wanted}

-- each sector of the blocks weighs 1
abbrev pub AreLight : List Entry → Type 0
AreLight entries = AllByRecursion (λ entry. entry.block.weight ≡ 1) entries

-- no bound is less than that of the 32 to which it belongs
abbrev pub IsUnder : List ℕ → List ℕ → Type 0
IsUnder upper lower = (k : ℕ) → get_or upper (k / 32) 2049 ≤ get_or lower k 2049

-- each of these bounds, of those from one index up to another, is greater than this number
abbrev pub AreAbove : List ℕ → ℕ → ℕ → ℕ → Type 0
AreAbove bounds most from end = (i : ℕ) → from ≤ i → i < end → most < get_or bounds i 2049

-- the block, if it is pending, has at least as many sectors as its cylinder's bound
abbrev pub IsNoShorter : List ℕ → Entry → Type 0
IsNoShorter bounds entry = is_wanted entry.state ≡ true → get_or bounds entry.block.track.cylinder 2049 ≤ entry.block.count

-- the block, if it is pending and on one of these cylinders, has at least so many sectors
abbrev pub IsAtLeast : ℕ → ℕ → ℕ → Entry → Type 0
IsAtLeast from end least entry = is_wanted entry.state ≡ true → from ≤ entry.block.track.cylinder → entry.block.track.cylinder < end
    → least ≤ entry.block.count

-- so has each registered block
abbrev pub AreAtLeast : ℕ → ℕ → ℕ → List Entry → Type 0
AreAtLeast from end least entries = AllByRecursion (IsAtLeast from end least) entries
