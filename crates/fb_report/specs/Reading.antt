-- Printed reports that were read.
use Rattle.std.specs.Prelude.{◌≡◌, ◌⊎◌, ℕ, ◌+◌, ◌<◌, ◌≤◌, List, ◌∷◌, length, Some, Result, Ok, Err, slice_get}
use Rattle.std.specs.List.{AllByRecursion, flat_map}
use Rattle.fb_desk.specs.declared.desk.Input.{Input}
use Rattle.fb_report.specs.declared.reading.ReportsFault.{ReportsFault}
use Rattle.fb_units.specs.declared.read_error.ReadError.{ReadError}
use Rattle.fb_units.specs.declared.read_error.ReadError.TheVariants.{Fault, NoMemory}
use Rattle.fb_report.specs.Grammar.{Grammar, LineFields, fore_grammar, back_grammar, report_of, spelled}

-- the lines of a report, or the first line that isn't in its place, or memory ran out
abbrev pub AnswersReport : Input → Result (List LineFields) (ReadError ReportsFault) → Result (List LineFields) ℕ → Type 0
AnswersReport input (Ok lines) verdict = verdict ≡ Ok lines
AnswersReport input (Err (Fault fault)) verdict = (fault.input ≡ input) × (verdict ≡ Err fault.line)
AnswersReport input (Err NoMemory) verdict = Unit {0}

-- the lines are those of a report
abbrev pub IsReport : Grammar → List LineFields → Type 0
IsReport grammar lines = report_of grammar (flat_map spelled lines) ≡ Ok lines

-- the line begins with an e, as `end` does
abbrev pub BeginsLikeEnd : List ℕ → Type 0
BeginsLikeEnd line = (rest : List ℕ) × (line ≡ 101 ∷ rest)

-- the last line is the only one that begins like an end line, and no line has many fields
pub record EndsOnce (lines : List LineFields) : Type 0 where
  pub some : 0 < length lines
  pub last : (line : LineFields) (index : ℕ) → index + 1 ≡ length lines → slice_get lines index ≡ Some line → BeginsLikeEnd (spelled line)
  pub others : (line : LineFields) (index : ℕ) → index + 1 < length lines → slice_get lines index ≡ Some line
      → BeginsLikeEnd (spelled line) → ⊥
  pub few : AllByRecursion (λ line. length line ≤ 16) lines

abbrev pub ReportsEndOnce : Type 0
ReportsEndOnce = (grammar : Grammar) (lines : List LineFields) → (grammar ≡ fore_grammar) ⊎ (grammar ≡ back_grammar)
    → IsReport grammar lines → EndsOnce lines
