-- How many lines a report has, and the text of what was written in free gaps.
use Rattle.std.proofs.Common.{◌≡◌, ℕ, ◌+◌, List, [], ◌∷◌, length, map, arith}
use Rattle.std.proofs.lemmas.List.{length-append, length-map}
use Rattle.fb_rows.specs.declared.run.Run.{Run}
use Rattle.fb_report.specs.declared.bytes.Bytes.{Bytes}
use Rattle.fb_report.specs.Back.{back_last, back_line, back_lines}
use Rattle.fb_report.specs.Fore.{fore_last, fore_line, fore_lines}
use Rattle.fb_bgwrite.specs.Text.{item_line, spill_last, spill_lines}
use Rattle.fb_bgwrite.specs.declared.items.SpillRun.{SpillRun}

pub fore_counted : (size : ℕ) (bytes : Bytes) (run : Run) → length (fore_lines size bytes run) ≡ length run.fore + 2
unfolding fore_lines
fore_counted size bytes run = omega (
  arith,
  length-append (map (fore_line size bytes) run.fore) (fore_last (length run.fore) run.passed_over ∷ []),
  length-map run.fore (fore_line size bytes),
)

pub back_counted : (names : List (List ℕ)) (size : ℕ) (bytes : Bytes) (run : Run)
    → length (back_lines names size bytes run) ≡ length run.back + 2
unfolding back_lines
back_counted names size bytes run = omega (
  arith,
  length-append (map (back_line names size bytes) run.back) (back_last run.end ∷ []),
  length-map run.back (back_line names size bytes),
)

pub spill_counted : (size : ℕ) (bytes : Bytes) (spill : SpillRun) → length (spill_lines size bytes spill) ≡ length spill.items + 2
unfolding spill_lines
spill_counted size bytes spill = omega (
  arith,
  length-append (map (item_line size bytes) spill.items) (spill_last spill.written spill.left ∷ []),
  length-map spill.items (item_line size bytes),
)
