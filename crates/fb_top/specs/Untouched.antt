-- Laws of the runs that the top call returns: background work leaves the foreground as it is, inputs have one run, no decision looks ahead,
-- a run's own reports are right, as are the reports that were printed, and the sections of an array are those of single replays.
use Rattle.std.specs.Prelude.{◌≡◌, ◌⊎◌, ℕ, ◌<◌, ◌≤◌, List, ◌++◌, length, slice_get, false, None, Some, IfSome}
use Rattle.fb_rows.specs.declared.run.Run.{Run}
use Rattle.fb_model.specs.Foreground.{promoted}
use Rattle.fb_model.specs.Inputs.{HaveSameSectors}
use Rattle.fb_model.specs.Known.{AgreeUpTo, SameKnown}
use Rattle.fb_model.specs.TheRun.{the_run}
use Rattle.fb_report.specs.declared.bytes.Bytes.{Bytes}
use Rattle.fb_report.specs.Back.{back_lines}
use Rattle.fb_report.specs.Fore.{fore_lines, fore_text}
use Rattle.fb_report.specs.Grammar.{Grammar, back_grammar, fore_grammar}
use Rattle.fb_report.specs.Printed.{IsReadBack}
use Rattle.fb_bgwrite.specs.declared.items.SpillRun.{SpillRun}
use Rattle.fb_check.specs.declared.verdict.Verdict.{Verdict}
use Rattle.fb_check.specs.declared.verdict.Verdict.TheVariants.{Yes}
use Rattle.fb_desk.specs.View.{DeskView, OutputView}
use Rattle.fb_desk.specs.declared.desk.Input.{Input}
use Rattle.fb_desk.specs.declared.desk.Output.TheVariants.{Back, Fore}
use Rattle.fb_words.specs.Command.{ArrayTerms, CheckTerms, ReplayTerms}
use Rattle.fb_top.specs.declared.outcome.Outcome.{Outcome}
use Rattle.fb_top.specs.declared.outcome.Outcome.TheVariants.{Checked, NoMemory}
use Rattle.fb_top.specs.Causes.{CheckHasCause}
use Rattle.fb_inputs.specs.Causes.{FaultsRose}
use Rattle.fb_top.specs.Checked.{IsVerdictOf}
use Rattle.fb_top.specs.Complete.{TellsReport}
use Rattle.fb_streams.specs.Names.{FileNames, check_file_names, replay_file_names}
use Rattle.fb_inputs.specs.Limits.{report_limit}
use Rattle.fb_inputs.specs.Read.{Files, inputs_of_files, key_of}
use Rattle.fb_top.specs.Array.{AreRunsOf}
use Rattle.fb_texts.specs.Sections.{device_line, section}
use Rattle.fb_top.specs.Done.{IsDone, IsRunOf, fore_told}
use Rattle.fb_top.specs.Spilled.{IsSpilled}
use Rattle.fb_texts.specs.Written.{OutputFaultsRose, joined}

-- the same disk, latent sectors and trace, and scripts that ask for the same reads
pub record AskForOneForeground (one other : Files) : Type 0 where
  pub disk : one.disk ≡ other.disk
  pub latent : HaveSameSectors one.latent other.latent
  pub trace : one.trace ≡ other.trace
  pub reads : promoted one.script.calls ≡ promoted other.script.calls

-- two runs by one policy, whatever else their scripts ask for and whenever they end, have one foreground text
abbrev pub ScriptsLeaveForeground : Type 0
ScriptsLeaveForeground = (one other : DeskView) (terms others : ReplayTerms) (run run' : Run) (is_run : IsRunOf one terms run)
    (is_other : IsRunOf other others run') (bytes : Bytes)
    → terms.policy ≡ others.policy → AskForOneForeground is_run.files is_other.files
    → fore_text is_run.files.disk.sector_bytes bytes run ≡ fore_text is_other.files.disk.sector_bytes bytes run'

-- both desks hold the same bytes under a name
abbrev pub HoldAlike : DeskView → DeskView → List ℕ → Type 0
HoldAlike one other name = (bytes : List ℕ) × (one.held name ≡ Some bytes) × (other.held name ≡ Some bytes)

-- and so under the name of each file of a run
pub record HoldFilesAlike (one other : DeskView) (names : FileNames) : Type 0 where
  pub params : HoldAlike one other names.params
  pub trace : HoldAlike one other names.trace
  pub calls : IfSome names.calls (HoldAlike one other)

-- two replays ask for one run: the same files and device, the same policy and the same end; what they print, and what they write in gaps,
-- may differ
pub record AskForOneRun (terms others : ReplayTerms) : Type 0 where
  pub names : replay_file_names terms ≡ replay_file_names others
  pub policy : terms.policy ≡ others.policy
  pub until : terms.until ≡ others.until

-- such words over the same bytes have one run
abbrev pub InputsHaveOneRun : Type 0
InputsHaveOneRun = (one other : DeskView) (terms others : ReplayTerms) (run run' : Run) → AskForOneRun terms others
    → HoldFilesAlike one other (replay_file_names terms)
    → IsRunOf one terms run → IsRunOf other others run' → run ≡ run'

-- the run of files is the one that is made of them, decision by decision
abbrev pub RunsAreMade : Type 0
RunsAreMade = (desk : DeskView) (terms : ReplayTerms) (run : Run) (is_run : IsRunOf desk terms run)
    → run ≡ the_run (inputs_of_files is_run.files (key_of terms.policy) terms.until)

-- two runs of files that agree up to an instant before both ends are the same in what is known by then
abbrev pub RunsLookNotAhead : Type 0
RunsLookNotAhead = (one other : DeskView) (terms others : ReplayTerms) (run run' : Run) (is_run : IsRunOf one terms run)
    (is_other : IsRunOf other others run') (t : ℕ)
    → t < run.end → t < run'.end
    → AgreeUpTo t (inputs_of_files is_run.files (key_of terms.policy) terms.until)
    (inputs_of_files is_other.files (key_of others.policy) others.until)
    → SameKnown t run run'

-- a check asks for what a replay asked for: the same policy and end, and files of the same bytes
pub record ChecksRun (one other : DeskView) (terms : ReplayTerms) (checks : CheckTerms) : Type 0 where
  pub names : check_file_names checks ≡ replay_file_names terms
  pub policy : checks.policy ≡ terms.policy
  pub until : checks.until ≡ terms.until
  pub alike : HoldFilesAlike one other (replay_file_names terms)

-- the text of these lines is held under a name, and is read as these lines
pub record HoldsLines (desk : DeskView) (name : List ℕ) (grammar : Grammar) (lines : List (List ℕ)) : Type 0 where
  pub held : desk.held name ≡ Some (joined lines)
  pub read : IsReadBack grammar lines

-- under both names the texts of a run's reports are held
pub record HoldsOwnReports (desk : DeskView) (checks : CheckTerms) (files : Files) (run : Run) : Type 0 where
  pub fore : HoldsLines desk checks.fore fore_grammar (fore_lines files.disk.sector_bytes checks.bytes run)
  pub back : HoldsLines desk checks.back back_grammar (back_lines files.script.names files.disk.sector_bytes checks.bytes run)

-- the verdict on a run's own reports is yes
abbrev pub RightReportsAreRight : Type 0
RightReportsAreRight =
    (one other : DeskView) (terms : ReplayTerms) (checks : CheckTerms) (run : Run) (verdict : Verdict) (is_run : IsRunOf one terms run)
    → IsVerdictOf other checks verdict → ChecksRun one other terms checks → HoldsOwnReports other checks is_run.files run → verdict ≡ Yes

-- what was written to an output is held under a name, and is no longer than a report may be
pub record HoldsWritten (output : OutputView) (desk : DeskView) (name : List ℕ) : Type 0 where
  pub bytes : List ℕ
  pub written : output.written ≡ Some bytes
  pub held : desk.held name ≡ Some bytes
  pub within : length bytes ≤ report_limit

-- a replay wrote its reports, without puts or with them
abbrev pub HasReplayed : DeskView → DeskView → ReplayTerms → Run → Type 0
HasReplayed old new terms run = IsDone old new terms run ⊎ ((spill : SpillRun) × IsSpilled old new terms run spill)

-- a check asks for what a replay asked for, and both reports that the replay wrote are held under the names of the check
pub record ChecksPrinted (old new other : DeskView) (terms : ReplayTerms) (checks : CheckTerms) : Type 0 where
  pub checks_run : ChecksRun old other terms checks
  pub bytes : checks.bytes ≡ terms.bytes
  pub no_summary : terms.summary ≡ false
  pub back_name : List ℕ
  pub back_given : terms.back ≡ Some back_name
  pub fore : HoldsWritten (new.outputs Fore) other checks.fore
  pub back : HoldsWritten (new.outputs Back) other checks.back

-- no call of an input or of the output for the verdict has failed
pub record MeetsNoFailure (old new : DeskView) : Type 0 where
  pub inputs : (input : Input) → FaultsRose old new input → ⊥
  pub fore : OutputFaultsRose old new Fore → ⊥

-- both reports are accepted, no verdict on them is another than yes, and so a check answers yes, unless memory runs out; the desk in
-- between is the one that it leaves before its note
pub record AreRight (desk : DeskView) (checks : CheckTerms) : Type 0 where
  pub fore : TellsReport desk fore_grammar checks.fore
  pub back : TellsReport desk back_grammar checks.back
  pub yes : (verdict : Verdict) → IsVerdictOf desk checks verdict → verdict ≡ Yes
  pub answer : (between : DeskView) (outcome : Outcome) → CheckHasCause checks desk between outcome → MeetsNoFailure desk between
      → (outcome ≡ Checked Yes) ⊎ (outcome ≡ NoMemory)

-- the reports that a replay printed are right
abbrev pub PrintedReportsAreRight : Type 0
PrintedReportsAreRight = (old new other : DeskView) (terms : ReplayTerms) (checks : CheckTerms) (run : Run) → HasReplayed old new terms run
    → ChecksPrinted old new other terms checks → AreRight other checks

-- a replay asks for one of the devices of an array: files of the same bytes, the same policy and the same form, without a script and
-- without a summary
pub record ReplaysDevice (one other : DeskView) (terms : ArrayTerms) (replay : ReplayTerms) : Type 0 where
  pub params : replay.params ≡ terms.params
  pub trace : replay.trace ≡ terms.trace
  pub no_calls : replay.calls ≡ None
  pub policy : replay.policy ≡ terms.policy
  pub bytes : replay.bytes ≡ terms.bytes
  pub no_summary : replay.summary ≡ false
  pub params_alike : HoldAlike one other terms.params
  pub trace_alike : HoldAlike one other terms.trace

-- behind the line that names its device, each section of an array is the text that such a replay writes to its foreground, also where the
-- device has the calls of a rebuild
abbrev pub SectionsAreReplays : Type 0
SectionsAreReplays = (one other : DeskView) (terms : ArrayTerms) (replay : ReplayTerms) (runs : List Run) (run run' : Run)
    (are_runs : AreRunsOf one terms runs) (is_run : IsRunOf other replay run')
    → ReplaysDevice one other terms replay → slice_get runs replay.device ≡ Some run
    → joined (section are_runs.array.disk.sector_bytes terms.bytes replay.device run) ≡ device_line replay.device
    ++ fore_told replay is_run.files run'
