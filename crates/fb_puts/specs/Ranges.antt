-- Ranges of sectors.
use Rattle.std.specs.Prelude.{◌≡◌, ◌+◌, List, [], ◌∷◌, Bool, false, ◌&&◌, nat_le, nat_lt, max, min}
use Rattle.std.specs.List.{AllByRecursion}
use Rattle.fb_puts.specs.declared.range.SectorRange.{SectorRange}

-- the ranges have a sector in common: the one that begins last begins before the first end
abbrev pub share : SectorRange → SectorRange → Bool
share a b = nat_lt (max a.first b.first) (min (a.first + a.count) (b.first + b.count))

-- all sectors of the first range are in the second
abbrev pub lies_in : SectorRange → SectorRange → Bool
lies_in a b = nat_le b.first a.first && nat_le (a.first + a.count) (b.first + b.count)

-- no two of the ranges have a sector in common
abbrev pub AreApart : List SectorRange → Type 0
AreApart [] = Unit {0}
AreApart (range ∷ ranges) = AllByRecursion (λ other. share range other ≡ false) ranges × AreApart ranges
