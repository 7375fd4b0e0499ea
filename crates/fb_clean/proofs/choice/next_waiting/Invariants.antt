use Rattle.std.proofs.Common.{◌≡◌, ◌≤◌, ◌<◌, ℕ, Some, false, slice_get}
use Rattle.fb_clean.specs.Segments.{LogSegment}
use Rattle.fb_clean.proofs.choice.next_waiting.Given as goal

abbrev pub invariant-loop-next : goal.invariant-loop-next
invariant-loop-next l = (i : ℕ) (s : LogSegment) → l.from ≤ i → i < l.next → slice_get l.segments i ≡ Some s → s.waits ≡ false
