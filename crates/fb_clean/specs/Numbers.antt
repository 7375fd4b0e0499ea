-- What always holds of a session's segments. No contract names it.
use Rattle.std.specs.Prelude.{◌≡◌, ◌≤◌, ◌<◌, ◌^◌, ℕ, ◌+◌, List, [], ◌∷◌, Option, Some, length}
use Rattle.std.specs.List.{AllByRecursion}
use Rattle.fb_clean.specs.Segments.{LogSegment}

-- numbered on from n
abbrev pub AreNumbered : ℕ → List LogSegment → Type 0
AreNumbered n [] = Unit {0}
AreNumbered n (segment ∷ segments) = (segment.number ≡ n) × AreNumbered (n + 1) segments

-- the live blocks end below 10^12
abbrev pub AreWithin : ℕ → List LogSegment → Type 0
AreWithin block segments = AllByRecursion (λ segment. AllByRecursion (λ lbn. lbn + block ≤ 10 ^ 12) segment.live) segments

-- the numbers fit, an unfinished segment is one of the segments, and each segment has a store for what is taken for it
pub record AreInPlace (block : ℕ) (segments : List LogSegment) (unfinished : Option ℕ) (taken : ℕ) : Type 0 where
  pub numbered : AreNumbered 1 segments
  pub few : length segments < 2 ^ 32
  pub within : AreWithin block segments
  pub as_many : taken ≡ length segments
  pub known : (number : ℕ) → unfinished ≡ Some number → (0 < number) × (number ≤ length segments)
