-- The lines of a text of spills: a first one, one for each row in order, and a last one.
use Rattle.fb_bgwrite.proofs.Words.{◌≡◌, ℕ, List, Result, Some, IfOk, IfOk-weaker, slice_get, refl, sym, ap, ◌∙◌}
use Rattle.fb_bgwrite.proofs.Words.{AreLines, item_line, spill_first, spill_last, spill_lines}
use Rattle.std.proofs.Common.{Global}
use Rattle.std.specs.declared.vec.Vec.{Vec}
use Rattle.fb_units.specs.declared.types.NoMemory.{NoMemory}
use Rattle.fb_report.specs.declared.bytes.Bytes.{Bytes}
use Rattle.fb_bgwrite.specs.declared.items.SpillRun.{SpillRun}

pub lines_are : (size : ℕ) (bytes : Bytes) (spill : SpillRun)
    → AreLines spill_first (item_line size bytes) spill.items (spill_last spill.written spill.left) (spill_lines size bytes spill)
unfolding spill_lines
lines_are size bytes spill = record { are = refl }

-- a line that was made stands at this index
pub stands_at : (made : Result (Vec ℕ Global) NoMemory) (lines : List (List ℕ)) (k : ℕ) (line : List ℕ) → slice_get lines k ≡ Some line
    → IfOk made (λ text. text.items ≡ line) → IfOk made (λ text. slice_get lines k ≡ Some text.items)
stands_at made lines k line at is =
    IfOk-weaker made (λ text. text.items ≡ line) (λ text. slice_get lines k ≡ Some text.items) (λ text same. at ∙ ap Some (sym same)) is
