-- Ranges of sectors that are kept by their ends.
use Rattle.std.specs.Prelude.{◌≡◌, ℕ, ◌+◌, ◌-◌, ◌<◌, ◌⊎◌, List, Some, false, slice_get}
use Rattle.std.specs.List.{AllByRecursion, list_any}
use Rattle.std.specs.Ordering.{nat_cmp}
use Rattle.std.specs.BTreeMap.{BTreeMap, get}
use Rattle.fb_puts.specs.declared.range.SectorRange.{SectorRange}
use Rattle.fb_puts.specs.Ranges.{share, AreApart}
use Rattle.fb_puts.specs.declared.taken.Taken.{Taken}
use Rattle.fb_puts.specs.declared.taken.Taken.TheVariants.{Known, Unknown}

-- the map has the first sector of each of these ranges by its end, and no other; no two of them share a sector, and each has one
pub record AreTaken (ends : BTreeMap ℕ ℕ) (ranges : List SectorRange) : Type 0 where
  pub each : AllByRecursion (λ range. get nat_cmp ends (range.first + range.count) ≡ Some range.first) ranges
  pub only : (end first : ℕ) → get nat_cmp ends end ≡ Some first
      → (i : ℕ) × (slice_get ranges i ≡ Some (let range : SectorRange = record { first = first; count = end - first } in range))
      × (first < end)
  pub apart : AreApart ranges
  pub some : AllByRecursion (λ range. 0 < range.count) ranges

-- they are the sectors of these ranges, if they are known
abbrev pub HasTaken : Taken → List SectorRange → Type 0
HasTaken (Known ends) ranges = AreTaken ends ranges
HasTaken Unknown ranges = Unit {0}

abbrev pub IsKnown : Taken → Type 0
IsKnown (Known ends) = Unit {0}
IsKnown Unknown = ⊥

-- it can be told whether the range shares a sector with these: they are known, or it shares none
abbrev pub IsSure : Taken → List SectorRange → SectorRange → Type 0
IsSure taken ranges range = IsKnown taken ⊎ (list_any (share range) ranges ≡ false)
