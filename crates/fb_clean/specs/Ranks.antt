-- The ranks by which segments are chosen. Contracts of this crate's inner functions cite it.
use Rattle.std.specs.Prelude.{◌≡◌, ◌≤◌, ◌<◌, ◌^◌, ◌+◌, ◌-◌, ◌*◌, ◌/◌, ℕ, List, Some, true, false, length, max, slice_get}
use Rattle.std.specs.BTreeSet.{BTreeSet, contains}
use Rattle.std.specs.Ordering.{nat_cmp}
use Rattle.fb_clean.specs.Segments.{LogSegment, gain, cost}

-- the ratio of benefit to cost, in whole parts of 2^26
unfoldable pub ratio : LogSegment → ℕ
ratio segment = gain segment * 2 ^ 26 / max (cost segment) 1

-- greater for a greater ratio, and where that is the same for the smaller number
unfoldable pub rank : LogSegment → ℕ
rank segment = ratio segment * 2 ^ 32 + (2 ^ 32 - 1 - segment.number)

-- the ranks are those of the segments still to be chosen, of which none stands before an index; none has more than 4,096 blocks
pub record AreRanked (segments : List LogSegment) (ranks : BTreeSet ℕ) (passed : ℕ) : Type 0 where
  pub small : (i : ℕ) (s : LogSegment) → slice_get segments i ≡ Some s → cost s ≤ 8192
  pub all : (i : ℕ) (s : LogSegment) → slice_get segments i ≡ Some s → s.waits ≡ true → contains nat_cmp ranks (rank s) ≡ true
  pub only : (r : ℕ) → contains nat_cmp ranks r ≡ true
      → (i : ℕ) × (s : LogSegment) × (slice_get segments i ≡ Some s) × (s.waits ≡ true) × (rank s ≡ r)
  pub none : (i : ℕ) (s : LogSegment) → slice_get segments i ≡ Some s → i < passed → s.waits ≡ false
  pub few : passed ≤ length segments
