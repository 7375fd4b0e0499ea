-- Lines that end with a line feed.
use Rattle.std.proofs.Common.{Global, ℕ, List, [], ◌∷◌, ◌++◌, ◌-◌, length, map, Option, Some, None, Result, refl}
use Rattle.std.proofs.Common.{sym, ap, subst, ◌≡◌, ◌∙◌, append_assoc, append-nil}
use Rattle.std.specs.Prelude.{IfOk, codes, decimal, slice_get}
use Rattle.std.specs.List.{AllByRecursion, sum_by}
use Rattle.std.specs.declared.vec.Vec.{Vec}
use Rattle.std.proofs.lemmas.Result.{IfOk-weaker}
use Rattle.fb_units.proofs.Lists.{all_get}
use Rattle.fb_units.specs.declared.types.NoMemory.{NoMemory}
use Rattle.fb_rows.specs.declared.back.BackRow.{BackRow}
use Rattle.fb_rows.specs.declared.back.BackRow.TheVariants.{Gap, Idle, Got, Bad, Seal, Segment, Complete, Task}
use Rattle.fb_rows.specs.declared.run.Run.{Run}
use Rattle.fb_report.specs.declared.bytes.Bytes.{Bytes}
use Rattle.fb_report.specs.Lines.{line_of, with_fields}
use Rattle.fb_report.specs.Shown.{shown}
use Rattle.fb_report.specs.Fore.{fore_last, fore_line, fore_lines, row_bytes, row_fields}
use Rattle.fb_report.specs.Lines.{name_text, track_text}
use Rattle.fb_report.specs.Back.{back_last, back_line, back_lines, digest_text, gap_fields, got_fields, segment_fields}
use Rattle.fb_report.specs.Back.{task_fields, task_text}
use Rattle.fb_bgwrite.specs.Text.{content_of, item_line, spill_fields, spill_last, spill_lines, wrote_fields}
use Rattle.fb_bgwrite.specs.declared.items.SpillItem.{SpillItem}
use Rattle.fb_bgwrite.specs.declared.items.SpillItem.TheVariants.{Spill, Wrote}
use Rattle.fb_bgwrite.specs.declared.items.SpillRun.{SpillRun}
use Rattle.fb_mirror.specs.Copy.{copy_lines, end_line, run_line, seal_line, writer_text}
use Rattle.fb_mirror.specs.declared.rebuilt.Rebuilt.{Rebuilt}
use Rattle.fb_streams.specs.Called.{EndsLine}
use Rattle.fb_texts.specs.Sections.{section}
use Rattle.fb_texts.specs.Written.{joined}

-- a text ends as its last part does
part_ends : (front part : List ℕ) → EndsLine part → EndsLine (front ++ part)
part_ends front part ends = (front ++ ends.0, ap (λ xs. front ++ xs) ends.1 ∙ sym (append_assoc front ends.0 (10 ∷ [])))

-- the last of these lines ends with a line feed
abbrev pub LastEnds : List (List ℕ) → Type 0
LastEnds [] = ⊥
LastEnds (line ∷ []) = EndsLine line
LastEnds (line ∷ next ∷ lines) = LastEnds (next ∷ lines)

pub joined_end : (lines : List (List ℕ)) → LastEnds lines → EndsLine (joined lines)
joined_end [] last = absurd last
joined_end (line ∷ []) last = subst EndsLine (sym (append-nil line)) last
joined_end (line ∷ next ∷ lines) last = part_ends line (joined (next ∷ lines)) (joined_end (next ∷ lines) last)

-- a text that was made
pub text_ends : (made : Result (Vec ℕ Global) NoMemory) (text : List ℕ) → EndsLine text → IfOk made (λ bytes. bytes.items ≡ text)
    → IfOk made (λ bytes. EndsLine bytes.items)
text_ends made text ends is = IfOk-weaker made _ _ (λ bytes same. subst EndsLine (sym same) ends) is

-- a line that was made
pub line_ends : (made : Result (Vec ℕ Global) NoMemory) (lines : List (List ℕ)) (k : ℕ) → AllByRecursion EndsLine lines
    → IfOk made (λ line. slice_get lines k ≡ Some line.items) → IfOk made (λ line. EndsLine line.items)
line_ends made lines k all is = IfOk-weaker made _ _ (λ line at. all_get EndsLine lines k line.items all at) is

-- a line of fields
pub fields_end : (first : List ℕ) (fields : List (List ℕ)) → EndsLine (line_of first fields)
fields_end first fields = (with_fields first fields, refl)

-- the lines of rows, and a last one
rows_end : {X : Type 0} (line : X → List ℕ) (last : List ℕ) (rows : List X) → ((row : X) → EndsLine (line row)) → EndsLine last
    → AllByRecursion EndsLine (map line rows ++ last ∷ [])
rows_end line last [] each end = (end, tt)
rows_end line last (row ∷ rows) each end = (each row, rows_end line last rows each end)

pub fore_end : (size : ℕ) (bytes : Bytes) (run : Run) → AllByRecursion EndsLine (fore_lines size bytes run)
unfolding fore_lines
fore_end size bytes run = (
  fields_end (codes "freeblock") (codes "fore" ∷ codes "1" ∷ []),
  rows_end (fore_line size bytes) (fore_last (length run.fore) run.passed_over) run.fore
      (λ row. fields_end (name_text row.request.name) (row_fields row (row_bytes size bytes row)))
      (fields_end (codes "end") (decimal (length run.fore) ∷ decimal run.passed_over ∷ [])),
)

back_row_ends : (names : List (List ℕ)) (size : ℕ) (bytes : Bytes) (row : BackRow) → EndsLine (back_line names size bytes row)
back_row_ends names size bytes (Gap row) = fields_end (codes "gap") (gap_fields row)
back_row_ends names size bytes (Idle dwell) =
    fields_end (codes "idle") (track_text dwell.track ∷ decimal dwell.begin ∷ decimal dwell.end ∷ [])
back_row_ends names size bytes (Got row) = fields_end (codes "got") (got_fields names row (shown bytes size row.content))
back_row_ends names size bytes (Bad row) = fields_end (codes "bad") (task_text names row.task ∷ decimal row.lbn ∷ [])
back_row_ends names size bytes (Seal row) =
    fields_end (codes "seal") (task_text names row.task ∷ decimal row.instant ∷ decimal (sum_by (λ run. run.count) row.content)
    ∷ digest_text bytes size row.content ∷ [])
back_row_ends names size bytes (Segment row) =
    fields_end (codes "seg") (segment_fields names row (digest_text bytes size row.content))
back_row_ends names size bytes (Complete row) = fields_end (codes "done") (task_text names row.task ∷ decimal row.instant ∷ [])
back_row_ends names size bytes (Task row) = fields_end (codes "task") (task_fields names row)

pub back_end : (names : List (List ℕ)) (size : ℕ) (bytes : Bytes) (run : Run) → AllByRecursion EndsLine (back_lines names size bytes run)
unfolding back_lines
back_end names size bytes run = (
  fields_end (codes "freeblock") (codes "back" ∷ codes "1" ∷ []),
  rows_end (back_line names size bytes) (back_last run.end) run.back (back_row_ends names size bytes)
      (fields_end (codes "end") (decimal run.end ∷ [])),
)

item_ends : (size : ℕ) (bytes : Bytes) (item : SpillItem) → EndsLine (item_line size bytes item)
item_ends size bytes (Spill row) = fields_end (codes "spill") (spill_fields row)
item_ends size bytes (Wrote row) = fields_end (codes "wrote") (wrote_fields row (shown bytes size (content_of row)))

pub spill_end : (size : ℕ) (bytes : Bytes) (spill : SpillRun) → AllByRecursion EndsLine (spill_lines size bytes spill)
unfolding spill_lines
spill_end size bytes spill = (
  fields_end (codes "freeblock") (codes "spill" ∷ codes "1" ∷ []),
  rows_end (item_line size bytes) (spill_last spill.written spill.left) spill.items (item_ends size bytes)
      (fields_end (codes "end") (decimal spill.written ∷ decimal spill.left ∷ [])),
)

seal_ends : (sealed : Option ℕ) → EndsLine (seal_line sealed)
seal_ends None = (codes "open", refl)
seal_ends (Some instant) = (codes "sealed " ++ decimal instant, refl)

pub copy_end : (copy : Rebuilt) (count : ℕ) → AllByRecursion EndsLine (copy_lines copy count)
copy_end copy count = (
  (codes "freeblock copy 1", refl),
  (
    seal_ends copy.sealed,
    rows_end run_line (end_line copy.covered count) copy.content
        (λ run. part_ends (codes "run " ++ decimal run.first) (32 ∷ (decimal run.count ++ 32 ∷ (writer_text run.content ++ 10 ∷ [])))
        (part_ends (32 ∷ decimal run.count) (32 ∷ (writer_text run.content ++ 10 ∷ [])) (32 ∷ writer_text run.content, refl)))
        (part_ends (codes "end " ++ decimal copy.covered) (32 ∷ (decimal (count - copy.covered) ++ 10 ∷ []))
        (32 ∷ decimal (count - copy.covered), refl)),
  ),
)

pub section_end : (size : ℕ) (bytes : Bytes) (device : ℕ) (run : Run) → AllByRecursion EndsLine (section size bytes device run)
section_end size bytes device run = ((codes "device " ++ decimal device, refl), fore_end size bytes run)
