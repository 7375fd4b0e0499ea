-- How far the lines of a printed report were compared with the due ones.
use Rattle.std.specs.Prelude.{◌≡◌, ◌≢◌, ℕ, ◌+◌, ◌<◌, List, ◌∷◌, length, map, take, Option, None, Some, slice_get}
use Rattle.std.specs.List.{join_with_byte}
use Rattle.fb_rows.specs.declared.fore.ForeRow.{ForeRow}
use Rattle.fb_rows.specs.declared.back.BackRow.{BackRow}
use Rattle.fb_report.specs.declared.bytes.Bytes.{Bytes}
use Rattle.fb_desk.specs.declared.desk.Input.{Input}
use Rattle.fb_desk.specs.declared.desk.Input.TheVariants.{ForeReport, BackReport}
use Rattle.fb_report.specs.Fore.{fore_first, fore_line}
use Rattle.fb_report.specs.Back.{back_first, back_line}
use Rattle.fb_report.specs.Grammar.{LineFields, report_fields, ended, spelled}
use Rattle.fb_report.specs.Reading.{EndsOnce}
use Rattle.fb_check.specs.declared.comparing.Comparison.{Comparison}
use Rattle.fb_check.specs.declared.verdict.Rule.{Rule}
use Rattle.fb_check.specs.declared.verdict.Rule.TheVariants.{Foreground, Timeline}
use Rattle.fb_check.specs.declared.verdict.Mismatch.{Mismatch}
use Rattle.fb_check.specs.Printed.{lines_of}
use Rattle.fb_check.specs.Verdict.{DifferFirstAt, IsMismatch, back_rule}

-- a due line isn't the printed one, and this is the first field, from 1, that differs
pub record DiffersFrom (due : List ℕ) (line : LineFields) (field : ℕ) : Type 0 where
  pub other : due ≢ join_with_byte 32 line
  pub field_index : ℕ
  pub field_is : field ≡ field_index + 1
  pub fields : DifferFirstAt field_index (report_fields due) line

-- a due line, without its line feed, is the printed one, or this is its first wrong field
abbrev pub FindsWrong : Option ℕ → List ℕ → LineFields → Type 0
FindsWrong None due line = due ≡ join_with_byte 32 line
FindsWrong (Some field) due line = DiffersFrom due line field

-- a printed line stands where the next due line is to be compared
abbrev pub StandsNext : Option Mismatch → List LineFields → ℕ → Type 0
StandsNext None lines same = same < length lines
StandsNext (Some mismatch) lines same = Unit {0}

-- another due line can be compared
pub record CanCompare (comparison : Comparison) : Type 0 where
  pub ends : EndsOnce (lines_of comparison.lines)
  pub next : StandsNext comparison.wrong (lines_of comparison.lines) comparison.same

-- the printed line of this index is the due one
pub record IsDue (due : List ℕ) (lines : List LineFields) (index : ℕ) : Type 0 where
  pub line : LineFields
  pub is_due : due ≡ spelled line
  pub is_printed : slice_get lines index ≡ Some line

-- the printed line of this index isn't the due one, and this is the first field that differs
pub record IsNotDue (due : List ℕ) (lines : List LineFields) (index field : ℕ) : Type 0 where
  pub due_line : List ℕ
  pub is_due : due ≡ ended due_line
  pub line : LineFields
  pub is_printed : slice_get lines index ≡ Some line
  pub differs : due ≢ spelled line
  pub field_index : ℕ
  pub field_is : field ≡ field_index + 1
  pub fields : DifferFirstAt field_index (report_fields due_line) line

-- a wrong line, as a mismatch
pub record NamesLine (due : List ℕ) (rule_by : ℕ → Rule) (input : Input) (lines : List LineFields) (index : ℕ)
    (mismatch : Mismatch) : Type 0 where
  pub not_due : IsNotDue due lines index mismatch.field
  pub line_is : mismatch.line ≡ index + 1
  pub rule_is : mismatch.rule ≡ rule_by mismatch.field
  pub input_is : mismatch.input ≡ input

-- the due line is the next printed one, which is passed, or it is wrong
abbrev pub NextIs : Option Mismatch → (ℕ → Rule) → List ℕ → Comparison → ℕ → Type 0
NextIs None rule_by due before same = (same ≡ before.same + 1) × IsDue due (lines_of before.lines) before.same
NextIs (Some mismatch) rule_by due before same = NamesLine due rule_by before.input (lines_of before.lines) before.same mismatch

-- one more due line was compared, unless an earlier one was wrong
abbrev pub OneMore : Option Mismatch → (ℕ → Rule) → List ℕ → Comparison → Comparison → Type 0
OneMore None rule_by due before after = NextIs after.wrong rule_by due before after.same
OneMore (Some mismatch) rule_by due before after = after.wrong ≡ Some mismatch

pub record HasComparedOne (rule_by : ℕ → Rule) (due : List ℕ) (before after : Comparison) : Type 0 where
  pub input : after.input ≡ before.input
  pub lines : lines_of after.lines ≡ lines_of before.lines
  pub one : OneMore before.wrong rule_by due before after

-- the due lines so far are the first printed ones
pub record AreFirst (due : List (List ℕ)) (rules : List (ℕ → Rule)) (lines : List LineFields) (same : ℕ) : Type 0 where
  pub count : length due ≡ same
  pub ruled : length rules ≡ same
  pub first : take same (map spelled lines) ≡ due

-- the due lines so far are the first printed ones, or one of them is wrong
abbrev pub SoFar : Option Mismatch → List (List ℕ) → List (ℕ → Rule) → Input → List LineFields → ℕ → Type 0
SoFar None due rules input lines same = AreFirst due rules lines same
SoFar (Some mismatch) due rules input lines same = IsMismatch due rules lines mismatch × (mismatch.input ≡ input)

-- the first line and the lines of these rows were compared
pub record HasCompared {X : Type 0} (input : Input) (first : List ℕ) (first_rule : Rule) (line : X → List ℕ) (rule : X → ℕ → Rule)
    (printed : List LineFields) (comparison : Comparison) (rows : List X) : Type 0 where
  pub input_is : comparison.input ≡ input
  pub lines_are : lines_of comparison.lines ≡ printed
  pub so_far : SoFar comparison.wrong (first ∷ map line rows)
      ((λ field. first_rule) ∷ map rule rows) comparison.input (lines_of comparison.lines) comparison.same

abbrev pub HasComparedFore : ℕ → Bytes → List LineFields → Comparison → List ForeRow → Type 0
HasComparedFore size bytes printed comparison rows =
    HasCompared ForeReport fore_first Foreground (fore_line size bytes) (λ row field. Foreground) printed comparison rows

abbrev pub HasComparedBack : List (List ℕ) → ℕ → Bytes → List LineFields → Comparison → List BackRow → Type 0
HasComparedBack names size bytes printed comparison rows =
    HasCompared BackReport back_first Timeline (back_line names size bytes) back_rule printed comparison rows
