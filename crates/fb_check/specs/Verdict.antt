-- What a verdict on two printed reports says.
use Rattle.std.specs.Prelude.{◌≡◌, ◌≢◌, ◌⊎◌, ℕ, ◌+◌, List, [], ◌∷◌, ◌++◌, length, map, replicate, take, nat_le, Some, slice_get}
use Rattle.std.specs.Prelude.{if◌then◌else◌}
use Rattle.fb_rows.specs.declared.back.BackRow.{BackRow}
use Rattle.fb_rows.specs.declared.back.BackRow.TheVariants.{Gap, Idle, Got, Bad, Seal, Segment, Complete, Task}
use Rattle.fb_rows.specs.declared.run.Run.{Run}
use Rattle.fb_model.specs.Inputs.{Inputs}
use Rattle.fb_model.specs.Content.{fore_rows}
use Rattle.fb_model.specs.FullRun.{IsFull}
use Rattle.fb_report.specs.declared.bytes.Bytes.{Bytes}
use Rattle.fb_desk.specs.declared.desk.Input.TheVariants.{ForeReport, BackReport}
use Rattle.fb_report.specs.Fore.{fore_lines}
use Rattle.fb_report.specs.Back.{back_lines}
use Rattle.fb_report.specs.Grammar.{LineFields, report_fields, ended, spelled}
use Rattle.fb_check.specs.declared.verdict.Rule.{Rule}
use Rattle.fb_check.specs.declared.verdict.Rule.TheVariants.{Foreground, Timeline, Plan, Delivery, Event, Tasks, End}
use Rattle.fb_check.specs.declared.verdict.Mismatch.{Mismatch}
use Rattle.fb_check.specs.declared.verdict.Verdict.{Verdict}
use Rattle.fb_check.specs.declared.verdict.Verdict.TheVariants.{Yes, No}

-- two lists differ first at this index: they are the same before it, and not at it
pub record DifferFirstAt {A : Type 0} (index : ℕ) (xs ys : List A) : Type 0 where
  pub before : take index xs ≡ take index ys
  pub there : slice_get xs index ≢ slice_get ys index

-- the rule that a background line breaks whose first wrong field, from 1, is this one
abbrev pub back_rule : BackRow → ℕ → Rule
back_rule (Gap row) field = if nat_le field 6 then Timeline else Plan
back_rule (Idle dwell) field = Timeline
back_rule (Got row) field = Delivery
back_rule (Bad row) field = Event
back_rule (Seal row) field = Event
back_rule (Segment row) field = Event
back_rule (Complete row) field = Event
back_rule (Task row) field = Tasks

-- the rule of each line of a foreground report, by its first wrong field
abbrev pub fore_rules : Run → List (ℕ → Rule)
fore_rules run = replicate (length run.fore + 2) (λ field. Foreground)

-- the rule of each line of a background report; its first line is the same in all reports
abbrev pub back_rules : Run → List (ℕ → Rule)
back_rules run = (λ field. Timeline) ∷ (map back_rule run.back ++ (λ field. End) ∷ [])

-- the mismatch names the first printed line that isn't the due one, the first field in it that differs, and the rule of the due line
pub record IsMismatch (due : List (List ℕ)) (rules : List (ℕ → Rule)) (printed : List LineFields) (mismatch : Mismatch) : Type 0 where
  pub index : ℕ
  pub line : mismatch.line ≡ index + 1
  pub lines : DifferFirstAt index due (map spelled printed)
  pub due_line : List ℕ
  pub is_due : slice_get due index ≡ Some (ended due_line)
  pub printed_line : LineFields
  pub is_printed : slice_get printed index ≡ Some printed_line
  pub field_index : ℕ
  pub field : mismatch.field ≡ field_index + 1
  pub fields : DifferFirstAt field_index (report_fields due_line) printed_line
  pub rule_by : ℕ → Rule
  pub is_rule : slice_get rules index ≡ Some rule_by
  pub rule : mismatch.rule ≡ rule_by mismatch.field

-- the run's foreground is that of the plain replay
pub record HasPlainForeground (inputs : Inputs) (run : Run) : Type 0 where
  pub fore : run.fore ≡ fore_rows inputs
  pub passed_over : run.passed_over ≡ inputs.passed_over

-- the lines of both printed reports, and how their bytes are shown
pub record Reports : Type 0 where
  pub names : List (List ℕ)
  pub bytes : Bytes
  pub fore : List LineFields
  pub back : List LineFields

-- the foreground lines are those of the run
abbrev pub HasForeLines : Inputs → Reports → Run → Type 0
HasForeLines inputs printed run = fore_lines inputs.disk.sector_bytes printed.bytes run ≡ map spelled printed.fore

-- and the background lines are
abbrev pub HasBackLines : Inputs → Reports → Run → Type 0
HasBackLines inputs printed run = back_lines printed.names inputs.disk.sector_bytes printed.bytes run ≡ map spelled printed.back

-- both reports are those of the full run
pub record AreRight (inputs : Inputs) (printed : Reports) : Type 0 where
  pub run : Run
  pub full : IsFull inputs run
  pub fore : HasForeLines inputs printed run
  pub back : HasBackLines inputs printed run

-- a foreground line is the first that is wrong
abbrev pub IsForeWrong : Inputs → Reports → Mismatch → Type 0
IsForeWrong inputs printed mismatch = (run : Run) → HasPlainForeground inputs run
    → IsMismatch (fore_lines inputs.disk.sector_bytes printed.bytes run) (fore_rules run) printed.fore mismatch

-- the foreground is right, and a background line is the first that is wrong
pub record IsBackWrong (inputs : Inputs) (printed : Reports) (mismatch : Mismatch) : Type 0 where
  pub run : Run
  pub full : IsFull inputs run
  pub fore : HasForeLines inputs printed run
  pub wrong : IsMismatch (back_lines printed.names inputs.disk.sector_bytes printed.bytes run) (back_rules run) printed.back mismatch

-- the mismatch is in the report that it names
abbrev pub IsWrong : Inputs → Reports → Mismatch → Type 0
IsWrong inputs printed mismatch =
    ((mismatch.input ≡ ForeReport) × IsForeWrong inputs printed mismatch)
    ⊎ ((mismatch.input ≡ BackReport) × IsBackWrong inputs printed mismatch)

-- yes says that both reports are right, and no names what is wrong first
abbrev pub IsVerdict : Inputs → Reports → Verdict → Type 0
IsVerdict inputs printed Yes = AreRight inputs printed
IsVerdict inputs printed (No mismatch) = IsWrong inputs printed mismatch
