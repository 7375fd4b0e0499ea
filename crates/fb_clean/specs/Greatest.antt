-- Which segment of a log is chosen.
use Rattle.std.specs.Prelude.{◌≡◌, ◌≢◌, ℕ, ◌*◌, ◌<◌, ◌≤◌, List, [], Option, None, Some, ◌⊎◌}
use Rattle.std.specs.List.{AllByRecursion, Contains}
use Rattle.fb_clean.specs.Segments.{LogSegment, Cleaning, gain, cost, waiting}

-- one of these segments has this number, and no other has a greater ratio of benefit to cost, or the same ratio and a smaller number;
-- ratios are compared by cross products, so that a segment without blocks is neither better nor worse than another
pub record IsGreatest (left : List LogSegment) (number : ℕ) : Type 0 where
  pub segment : LogSegment
  pub numbered : segment.number ≡ number
  pub is_left : Contains left segment
  pub greatest : AllByRecursion (λ other. gain other * cost segment ≤ gain segment * cost other) left
  pub first : AllByRecursion (λ other. 0 < cost other → gain other * cost segment ≡ gain segment * cost other → number ≤ other.number) left

-- no choice while a chosen segment is unfinished or where none is left, and else the greatest of those left
abbrev pub IsChoice : Cleaning → Option ℕ → Type 0
IsChoice cleaning None = (cleaning.unfinished ≢ None) ⊎ (waiting cleaning.segments ≡ [])
IsChoice cleaning (Some number) = (cleaning.unfinished ≡ None) × IsGreatest (waiting cleaning.segments) number
