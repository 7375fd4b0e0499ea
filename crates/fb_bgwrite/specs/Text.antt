-- The text of spills, line by line.
use Rattle.std.specs.Prelude.{ℕ, ◌+◌, ◌^◌, ◌≤◌, List, [], ◌∷◌, ◌++◌, map, decimal, codes}
use Rattle.fb_store.specs.declared.content.Content.TheVariants.{Filled}
use Rattle.fb_store.specs.declared.content.ContentRun.{ContentRun}
use Rattle.fb_report.specs.declared.bytes.Bytes.{Bytes}
use Rattle.fb_report.specs.Lines.{first_line, line_of, name_text, track_text}
use Rattle.fb_report.specs.Shown.{shown}
use Rattle.fb_bgwrite.specs.declared.items.SpillItem.{SpillItem}
use Rattle.fb_bgwrite.specs.declared.items.SpillItem.TheVariants.{Spill, Wrote}
use Rattle.fb_bgwrite.specs.declared.items.SpillRow.{SpillRow}
use Rattle.fb_bgwrite.specs.declared.items.SpillRun.{SpillRun}
use Rattle.fb_bgwrite.specs.declared.items.WroteRow.{WroteRow}

-- who wrote the sectors of a put: a number above that of every request
abbrev pub writer_of : ℕ → ℕ
writer_of put = 2 ^ 32 + put

-- what the sectors of a written block hold
abbrev pub content_of : WroteRow → List ContentRun
content_of row = record { first = row.lbn; count = row.count; content = Filled (writer_of row.put) } ∷ []

-- request, track, begin and end
abbrev pub spill_fields : SpillRow → List (List ℕ)
spill_fields row = name_text row.name ∷ track_text row.track ∷ decimal row.begin ∷ decimal row.end ∷ []

-- put, first LBN, count, begin, end and the bytes written
abbrev pub wrote_fields : WroteRow → List ℕ → List (List ℕ)
wrote_fields row written = decimal row.put ∷ decimal row.lbn ∷ decimal row.count ∷ decimal row.begin ∷ decimal row.end ∷ written ∷ []

-- the line of a row
abbrev pub item_line : ℕ → Bytes → SpillItem → List ℕ
item_line size bytes (Spill row) = line_of (codes "spill") (spill_fields row)
item_line size bytes (Wrote row) = line_of (codes "wrote") (wrote_fields row (shown bytes size (content_of row)))

abbrev pub spill_first : List ℕ
spill_first = first_line (codes "spill")

-- how many sectors were written, and how many are left
abbrev pub spill_last : ℕ → ℕ → List ℕ
spill_last written left = line_of (codes "end") (decimal written ∷ decimal left ∷ [])

-- the first line, a line for each row in order, and the last
unfoldable pub spill_lines : ℕ → Bytes → SpillRun → List (List ℕ)
spill_lines size bytes spill = spill_first ∷ (map (item_line size bytes) spill.items ++ spill_last spill.written spill.left ∷ [])

-- the put's number isn't too large, nor the block's sectors
abbrev pub HasRange : SpillItem → Type 0
HasRange (Spill row) = Unit {0}
HasRange (Wrote row) = (row.put ≤ 10 ^ 12) × (row.lbn + row.count ≤ 10 ^ 12)
