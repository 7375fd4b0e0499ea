-- What a replay has written.
use Rattle.std.specs.Prelude.{◌≡◌, ℕ, ◌<◌, ◌≤◌, ◌^◌, ◌++◌, List, length, None, false, codes, IfSome, if◌then◌else◌}
use Rattle.std.specs.List.{AllByRecursion}
use Rattle.fb_geometry.specs.Sound.{IsSound}
use Rattle.fb_rows.specs.declared.run.Run.{Run}
use Rattle.fb_rows.specs.Tasks.{HasTaskBelow}
use Rattle.fb_model.specs.Accepted.{IsAccepted}
use Rattle.fb_model.specs.FullRun.{IsFull}
use Rattle.fb_report.specs.Back.{back_lines, back_text}
use Rattle.fb_report.specs.Fore.{fore_lines, fore_text}
use Rattle.fb_report.specs.Grammar.{back_grammar, fore_grammar}
use Rattle.fb_report.specs.Printed.{AreNames, CountsSectors, IsReadBack, ReadsSectors}
use Rattle.fb_report.specs.Summary.{summary_text}
use Rattle.fb_desk.specs.View.{DeskView}
use Rattle.fb_desk.specs.declared.desk.Output.TheVariants.{Fore, Back}
use Rattle.fb_words.specs.Command.{ReplayTerms}
use Rattle.fb_inputs.specs.Read.{Files, Accepts, inputs_of_files, key_of}
use Rattle.fb_streams.specs.Names.{replay_file_names}
use Rattle.fb_texts.specs.Written.{Text, WritesAll, given_text, one_text}

-- the full run of the accepted files; their disk has no fault, and they keep the rules that laws of full runs ask of inputs
pub record IsRunOf (desk : DeskView) (terms : ReplayTerms) (run : Run) : Type 0 where
  pub files : Files
  pub accepts : Accepts desk (replay_file_names terms) files
  pub sound : IsSound files.disk.map
  pub accepted : IsAccepted (inputs_of_files files (key_of terms.policy) terms.until)
  pub full : IsFull (inputs_of_files files (key_of terms.policy) terms.until) run

-- rows that a report can show: at most a million in the foreground, and each task of the background has a name
pub record CanBeTold (names : List (List ℕ)) (run : Run) : Type 0 where
  pub few : length run.fore ≤ 10 ^ 6
  pub named : AllByRecursion (HasTaskBelow (length names)) run.back

-- what the lines of both reports need to be in their places: bytes in a sector, names of tasks, and the sectors that rows must have
pub record CanBeRead (files : Files) (run : Run) : Type 0 where
  pub some_bytes : 0 < files.disk.sector_bytes
  pub names : AreNames files.script.names
  pub fore : AllByRecursion ReadsSectors run.fore
  pub back : AllByRecursion CountsSectors run.back

-- a reader accepts the reports that the words ask for: the foreground where no summary is asked for, and the background if any
pub record AreReadBack (terms : ReplayTerms) (files : Files) (run : Run) : Type 0 where
  pub fore : terms.summary ≡ false → IsReadBack fore_grammar (fore_lines files.disk.sector_bytes terms.bytes run)
  pub back : IfSome terms.back (λ name. IsReadBack back_grammar (back_lines files.script.names files.disk.sector_bytes terms.bytes run))

-- what the words ask for of a run's foreground: its report, or the summary of the run
abbrev pub fore_told : ReplayTerms → Files → Run → List ℕ
fore_told terms files run = if terms.summary then summary_text run else fore_text files.disk.sector_bytes terms.bytes run

-- and of its background: its report
abbrev pub back_told : ReplayTerms → Files → Run → List ℕ
back_told terms files run = back_text files.script.names files.disk.sector_bytes terms.bytes run

-- the reports that the words ask for, in this order: the foreground under the name `-`, and the background under the name that is given
abbrev pub report_texts : ReplayTerms → Files → Run → List Text
report_texts terms files run =
    one_text Fore (codes "-") (fore_told terms files run) ++ given_text Back terms.back (back_told terms files run)

-- the words name no puts, the run is that of the files that were accepted, its reports are written, and a reader accepts them
pub record IsDone (old new : DeskView) (terms : ReplayTerms) (run : Run) : Type 0 where
  pub no_puts : terms.puts ≡ None
  pub is_run : IsRunOf old terms run
  pub texts : WritesAll (report_texts terms is_run.files run) old new
  pub read : AreReadBack terms is_run.files run
