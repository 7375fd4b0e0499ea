-- What a replay has written where the words name puts.
use Rattle.std.specs.Prelude.{◌≡◌, ◌++◌, List, ℕ, Option, Some, None, is_some, true}
use Rattle.std.specs.List.{AllByRecursion, sum_by}
use Rattle.fb_service.specs.declared.disk.Disk.{Disk}
use Rattle.fb_rows.specs.declared.run.Run.{Run}
use Rattle.fb_model.specs.FullRun.{IsFull}
use Rattle.fb_model.specs.PlainReplay.{Key}
use Rattle.fb_bgwrite.specs.Held.{HoldsPuts}
use Rattle.fb_puts.specs.Reading.{Accepted as PutsRead}
use Rattle.fb_bgwrite.specs.Spilled.{AreOnce, IsInTime, IsSpillRun, left_over, sectors_in}
use Rattle.fb_bgwrite.specs.Text.{spill_lines}
use Rattle.fb_bgwrite.specs.declared.items.SpillRun.{SpillRun}
use Rattle.fb_desk.specs.View.{DeskView}
use Rattle.fb_desk.specs.declared.desk.Output.TheVariants.{Spill}
use Rattle.fb_words.specs.Command.{ReplayTerms}
use Rattle.fb_texts.specs.declared.error.TextsError.{TextsError}
use Rattle.fb_inputs.specs.Read.{AcceptsPuts, Files, inputs_of_files}
use Rattle.fb_top.specs.Done.{AreReadBack, IsRunOf, report_texts}
use Rattle.fb_texts.specs.Written.{StopsTexts, Text, WritesAll, given_text, joined}

-- a full run of these files, by some order of service and some limit of time
pub record IsRunOfFiles (files : Files) (run : Run) : Type 0 where
  pub key : Key
  pub until : ℕ
  pub full : IsFull (inputs_of_files files key until) run

-- what is written of puts in the free gaps of a run
pub record WritesPuts (disk : Disk) (run : Run) (puts : PutsRead) (spill : SpillRun) : Type 0 where
  -- each free gap has the best spill, its rows stand in order and no others, and the head can go the amended way, which keeps all
  -- foreground passages and all stays in which a block is delivered
  pub spills : IsSpillRun disk run puts.puts spill.items
  -- no block is written twice, or before its instant
  pub once : AreOnce spill.items
  pub in_time : AllByRecursion (IsInTime disk puts.puts) spill.items
  -- at the end the reserve holds what the rows tell, and else what it held before
  pub holds : HoldsPuts run puts.reserve spill.items
  -- how many sectors were written, and how many are left
  pub written : spill.written ≡ sum_by sectors_in spill.items
  pub left : spill.left ≡ left_over disk puts.puts spill.items

-- the same for the puts that are given, if there are any
abbrev pub WritesGiven : Disk → Run → Option PutsRead → Option SpillRun → Type 0
WritesGiven disk run None None = Unit {0}
WritesGiven disk run (Some puts) (Some spill) = WritesPuts disk run puts spill
WritesGiven disk run _ _ = ⊥

-- what is written in the free gaps of a run of the puts that were accepted
pub record IsSpillOf (desk : DeskView) (terms : ReplayTerms) (files : Files) (run : Run) (spill : SpillRun) : Type 0 where
  pub puts : PutsRead
  pub accepts : AcceptsPuts desk terms.puts files (Some puts)
  pub writes : WritesPuts files.disk run puts spill

-- the text of what was written
abbrev pub spill_told : ReplayTerms → Files → SpillRun → List ℕ
spill_told terms files spill = joined (spill_lines files.disk.sector_bytes terms.bytes spill)

-- what a replay writes, in this order: its reports, and the text of what was written in free gaps, if anything was to be written there
abbrev pub replay_texts : ReplayTerms → Files → Run → Option SpillRun → List Text
replay_texts terms files run None = report_texts terms files run
replay_texts terms files run (Some spill) = report_texts terms files run ++ given_text Spill terms.spill (spill_told terms files spill)

-- the run is that of the files that were accepted, and the spills are those of the puts that were accepted too; all is written, the
-- spills under the name that the words give, and a reader accepts the reports
pub record IsSpilled (old new : DeskView) (terms : ReplayTerms) (run : Run) (spill : SpillRun) : Type 0 where
  pub is_run : IsRunOf old terms run
  pub is_spill : IsSpillOf old terms is_run.files run spill
  pub named : is_some terms.spill ≡ true
  pub texts : WritesAll (replay_texts terms is_run.files run (Some spill)) old new
  pub read : AreReadBack terms is_run.files run

-- there is such a run and, where the words name puts, these are accepted and there are such spills; and their texts were not all written
pub record IsReplayCut (old new : DeskView) (terms : ReplayTerms) (error : TextsError) : Type 0 where
  pub run : Run
  pub is_run : IsRunOf old terms run
  pub puts : Option PutsRead
  pub accepts_puts : AcceptsPuts old terms.puts is_run.files puts
  pub spill : Option SpillRun
  pub writes : WritesGiven is_run.files.disk run puts spill
  pub stops : StopsTexts (replay_texts terms is_run.files run spill) old new error
