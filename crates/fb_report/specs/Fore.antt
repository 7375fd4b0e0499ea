-- The foreground report.
use Rattle.std.specs.Prelude.{ℕ, map, List, [], ◌∷◌, ◌++◌, Bool, length, decimal, codes, if◌then◌else◌}
use Rattle.std.specs.List.{flat_map}
use Rattle.fb_rows.specs.declared.fore.ForeRow.{ForeRow}
use Rattle.fb_rows.specs.declared.run.Run.{Run}
use Rattle.fb_report.specs.declared.bytes.Bytes.{Bytes}
use Rattle.fb_report.specs.Lines.{first_line, line_of, name_text}
use Rattle.fb_report.specs.Shown.{shown}

-- W for a write, R for a read
abbrev pub kind_text : Bool → List ℕ
kind_text write = if write then codes "W" else codes "R"

-- the bytes that a read found; a dash for a write
abbrev pub row_bytes : ℕ → Bytes → ForeRow → List ℕ
row_bytes size bytes row = if row.request.write then codes "-" else shown bytes size row.content

-- how many sectors of a read can't be read; 0 for a write
abbrev pub bad_count : ForeRow → ℕ
bad_count row = if row.request.write then 0 else row.bad

-- kind, first LBN, count, arrival, start, media, finish, bad sectors and the bytes found
abbrev pub row_fields : ForeRow → List ℕ → List (List ℕ)
row_fields row found = kind_text row.request.write ∷ decimal row.request.lbn ∷ decimal row.request.count ∷ decimal row.request.arrival
    ∷ decimal row.start ∷ decimal row.media ∷ decimal row.finish ∷ decimal (bad_count row) ∷ found ∷ []

-- the name, and then the fields of the row
abbrev pub fore_line : ℕ → Bytes → ForeRow → List ℕ
fore_line size bytes row = line_of (name_text row.request.name) (row_fields row (row_bytes size bytes row))

abbrev pub fore_first : List ℕ
fore_first = first_line (codes "fore")

-- how many rows there are, and how many requests were passed over
abbrev pub fore_last : ℕ → ℕ → List ℕ
fore_last rows passed_over = line_of (codes "end") (decimal rows ∷ decimal passed_over ∷ [])

-- the first line, a line for each row in order of service, and the last
unfoldable pub fore_lines : ℕ → Bytes → Run → List (List ℕ)
fore_lines size bytes run = fore_first ∷ (map (fore_line size bytes) run.fore ++ fore_last (length run.fore) run.passed_over ∷ [])

abbrev pub fore_text : ℕ → Bytes → Run → List ℕ
fore_text size bytes run = flat_map (λ line. line) (fore_lines size bytes run)
