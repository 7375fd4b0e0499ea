-- What is printed, in the grammar of reports.
use Rattle.std.specs.Prelude.{◌≡◌, ◌⊎◌, ℕ, ◌+◌, ◌^◌, ◌<◌, ◌≤◌, List, [], ◌∷◌, length, map, Bool, true, false, not, ◌&&◌, ◌==◌, nat_lt, Some}
use Rattle.std.specs.Prelude.{Ok, slice_get, if◌then◌else◌}
use Rattle.std.specs.List.{AllByRecursion, flat_map, list_all, list_any, sum_by}
use Rattle.fb_store.specs.declared.content.ContentRun.{ContentRun}
use Rattle.fb_script.specs.Names.{is_name}
use Rattle.fb_rows.specs.declared.fore.ForeRow.{ForeRow}
use Rattle.fb_rows.specs.declared.back.BackRow.{BackRow}
use Rattle.fb_rows.specs.declared.back.BackRow.TheVariants.{Gap, Idle, Got, Bad, Seal, Segment, Complete, Task}
use Rattle.fb_report.specs.Grammar.{Grammar, Form, LineFields, is_line_of, report_of, ended, spelled}

-- ---- fields

-- a field of this form, in which no byte is a space or a control character
pub record IsField (form : Form) (field : List ℕ) : Type 0 where
  pub fits : form field ≡ true
  pub whole : list_all (λ byte. nat_lt 32 byte) field ≡ true

-- each field is what it must be, and none is missing or too many
abbrev pub AreFields : List Form → List (List ℕ) → Type 0
AreFields [] [] = Unit {0}
AreFields [] (field ∷ fields) = ⊥
AreFields (form ∷ forms) [] = ⊥
AreFields (form ∷ forms) (field ∷ fields) = IsField form field × AreFields forms fields

-- they are the fields of one of these lines
abbrev pub AreOneOf : List (List Form) → List (List ℕ) → Type 0
AreOneOf [] fields = ⊥
AreOneOf (forms ∷ others) fields = AreFields forms fields ⊎ AreOneOf others fields

-- ---- lines

-- a line that passes this test, with a line feed behind it and none before
pub record IsLine (test : List ℕ → Bool) (line : List ℕ) : Type 0 where
  pub part : List ℕ
  pub is_ended : line ≡ ended part
  pub whole : list_any (λ byte. byte == 10) part ≡ false
  pub passes : test part ≡ true

abbrev pub is_first : Grammar → List ℕ → Bool
is_first grammar line = is_line_of grammar.first line

abbrev pub is_row : Grammar → List ℕ → Bool
is_row grammar line = list_any (λ forms. is_line_of forms line) grammar.rows

-- a last line, which no reader takes for a row
abbrev pub is_last : Grammar → List ℕ → Bool
is_last grammar line = is_line_of grammar.last line && not (is_row grammar line)

-- the line may stand at this index, from 0, among so many: the first line, then rows, then the last line
abbrev pub is_in_place : Grammar → ℕ → ℕ → List ℕ → Bool
is_in_place grammar many index line =
    if index == 0 then is_first grammar line
    else if index + 1 == many then is_last grammar line
    else is_row grammar line

-- ---- reports

-- the lines of a report, each with its line feed and in its place
pub record IsPrinted (grammar : Grammar) (lines : List (List ℕ)) : Type 0 where
  pub ends : 2 ≤ length lines
  pub in_place : (index : ℕ) (line : List ℕ) → slice_get lines index ≡ Some line → IsLine (is_in_place grammar (length lines) index) line

-- the reader accepts these lines one after another, and gives each as its fields
pub record IsReadBack (grammar : Grammar) (lines : List (List ℕ)) : Type 0 where
  pub parts : List LineFields
  pub are : map spelled parts ≡ lines
  pub read : report_of grammar (flat_map (λ line. line) lines) ≡ Ok parts

abbrev pub PrintedAreReadBack : Type 0
PrintedAreReadBack = (grammar : Grammar) (lines : List (List ℕ)) → IsPrinted grammar lines → IsReadBack grammar lines

-- ---- what rows must have to be printed

-- there is a sector
abbrev pub HasSectors : List ContentRun → Type 0
HasSectors runs = 0 < sum_by (λ run. run.count) runs

-- a read has a sector
abbrev pub ReadsSectors : ForeRow → Type 0
ReadsSectors row = row.request.write ≡ false → HasSectors row.content

-- a delivery has a sector, and a sealed image fewer than 2^64
abbrev pub CountsSectors : BackRow → Type 0
CountsSectors (Gap row) = Unit {0}
CountsSectors (Idle dwell) = Unit {0}
CountsSectors (Got row) = HasSectors row.content
CountsSectors (Bad row) = Unit {0}
CountsSectors (Seal row) = sum_by (λ run. run.count) row.content < 2 ^ 64
CountsSectors (Segment row) = Unit {0}
CountsSectors (Complete row) = Unit {0}
CountsSectors (Task row) = Unit {0}

-- each is the name of a task
abbrev pub AreNames : List (List ℕ) → Type 0
AreNames names = AllByRecursion (λ name. is_name name ≡ true) names
