-- What the replay of an array has written, and why.
use Rattle.std.specs.Prelude.{◌≡◌, ◌⊎◌, ℕ, List, [], ◌++◌, length, codes, slice_get, Option, Some, option_and_then, true, is_some}
use Rattle.std.specs.Option.{option_map}
use Rattle.std.specs.String.{string_bytes}
use Rattle.fb_geometry.specs.Places.{places}
use Rattle.fb_geometry.specs.Sound.{IsSound}
use Rattle.fb_rows.specs.declared.run.Run.{Run}
use Rattle.fb_trace.specs.Reading.{Accepted}
use Rattle.fb_model.specs.Accepted.{IsAccepted}
use Rattle.fb_model.specs.FullRun.{IsFull}
use Rattle.fb_report.specs.Back.{back_lines, back_text}
use Rattle.fb_mirror.specs.Copy.{copy_lines}
use Rattle.fb_mirror.specs.Replacement.{contents_after, covered_after, events, sealed_in}
use Rattle.fb_mirror.specs.declared.rebuilt.Rebuilt.{Rebuilt}
use Rattle.fb_desk.specs.View.{DeskView}
use Rattle.fb_desk.specs.declared.desk.Input.{Input}
use Rattle.fb_desk.specs.declared.desk.Output.TheVariants.{Fore, Back, Copied}
use Rattle.fb_words.specs.Command.{ArrayTerms, RebuildTerms}
use Rattle.fb_words.specs.declared.command.RebuildWords.{RebuildWords}
use Rattle.fb_texts.specs.declared.lines.BackLines.{BackLines}
use Rattle.fb_texts.specs.declared.array_text.CopyLines.{CopyLines}
use Rattle.fb_top.specs.declared.outcome.Outcome.{Outcome}
use Rattle.fb_top.specs.declared.outcome.Outcome.TheVariants as outcomes
use Rattle.fb_streams.specs.Names.{array_names}
use Rattle.fb_inputs.specs.Devices.{Array, AcceptsArray, StopsArray, device_inputs}
use Rattle.fb_texts.specs.declared.error.TextsError.{TextsError}
use Rattle.fb_texts.specs.declared.error.TextsError.TheVariants as faults
use Rattle.fb_texts.specs.Sections.{array_lines}
use Rattle.fb_texts.specs.Written.{OutputFaultsRose, StopsTexts, Text, WritesAll, joined, one_text}
use Rattle.fb_inputs.specs.Causes.{FaultsRose, RunsOut}
use Rattle.fb_top.specs.Ends.{IsUnaccepted}

-- the full run of a device
pub record IsRunOfDevice (terms : ArrayTerms) (array : Array) (device : ℕ) (run : Run) : Type 0 where
  pub trace : Accepted
  pub here : slice_get array.traces device ≡ Some trace
  pub accepted : IsAccepted (device_inputs terms array device trace)
  pub full : IsFull (device_inputs terms array device trace) run

-- the full runs of the devices, by device, made from the accepted files; their disk has no fault
pub record AreRunsOf (desk : DeskView) (terms : ArrayTerms) (runs : List Run) : Type 0 where
  pub array : Array
  pub accepts : AcceptsArray desk terms array
  pub sound : IsSound array.disk.map
  pub count : length runs ≡ terms.devices
  pub each : (device : ℕ) (run : Run) → slice_get runs device ≡ Some run → IsRunOfDevice terms array device run

-- the run of the device that the rebuild is made from
abbrev pub survivor : Option RebuildTerms → List Run → Option Run
survivor rebuild runs = option_and_then (λ terms. slice_get runs terms.device) rebuild

-- how many sectors each device has
abbrev pub sectors_of : Array → ℕ
sectors_of array = length (places array.disk.map)

-- the replacement that a run makes on a disk of so many sectors
abbrev pub replacement : ℕ → Run → Rebuilt
replacement sectors run =
    record { sealed = sealed_in run.back; content = contents_after (events run) sectors; covered = covered_after (events run) sectors }

-- what is written of a rebuild: the background report of its run, and then the text of the replacement
abbrev pub rebuild_texts : ArrayTerms → Array → Option RebuildTerms → Option Run → List Text
rebuild_texts terms array (Some rebuild) (Some run) =
    one_text Back rebuild.back (back_text array.script.names array.disk.sector_bytes terms.bytes run)
    ++ one_text Copied rebuild.copy (joined (copy_lines (replacement (sectors_of array) run) (sectors_of array)))
rebuild_texts terms array _ _ = []

-- the same texts, by their lines
abbrev pub copy_texts : RebuildWords → BackLines → CopyLines → List Text
copy_texts words back copy =
    one_text Back (string_bytes words.back) (joined (back_lines back.names.now back.sector_bytes back.bytes back.run.now))
    ++ one_text Copied (string_bytes words.copy) (joined (copy_lines copy.copy.now copy.sectors))

-- what is written of an array, in this order: the sections of all devices, and then what the rebuild asks for
abbrev pub array_texts : ArrayTerms → Array → List Run → List Text
array_texts terms array runs =
    one_text Fore (codes "-") (joined (array_lines array.disk.sector_bytes terms.bytes runs))
    ++ rebuild_texts terms array terms.rebuild (survivor terms.rebuild runs)

-- the runs are those of the accepted files, the copy is that of its device's run, and all texts are written
pub record IsArrayed (old new : DeskView) (terms : ArrayTerms) (runs : List Run) (copy : Option Rebuilt) : Type 0 where
  pub are_runs : AreRunsOf old terms runs
  pub copied : copy ≡ option_map (replacement (sectors_of are_runs.array)) (survivor terms.rebuild runs)
  pub texts : WritesAll (array_texts terms are_runs.array runs) old new

-- there are such runs, and their texts were not all written
pub record IsArrayCut (old new : DeskView) (terms : ArrayTerms) (error : TextsError) : Type 0 where
  pub runs : List Run
  pub are_runs : AreRunsOf old terms runs
  pub stops : StopsTexts (array_texts terms are_runs.array runs) old new error

-- the cause of each answer to the terms of an array
abbrev pub ArrayHasCause : ArrayTerms → DeskView → DeskView → Outcome → Type 0
ArrayHasCause terms old new (outcomes.Arrayed runs copy) = IsArrayed old new terms runs copy
ArrayHasCause terms old new (outcomes.WriteFault output) = IsArrayCut old new terms (faults.WriteFault output)
ArrayHasCause terms old new outcomes.NoMemory = RunsOut old new (array_names terms) ⊎ IsArrayCut old new terms faults.NoMemory
ArrayHasCause terms old new outcome = IsUnaccepted (StopsArray terms old new) outcome

-- the desk tells what the files hold, they are accepted with the script of the rebuild, and no count of faults rises
pub record ArrayGoesWell (old new : DeskView) (terms : ArrayTerms) : Type 0 where
  pub array : Array
  pub accepts : AcceptsArray old terms array
  pub params_told : is_some (old.held terms.params) ≡ true
  pub trace_told : is_some (old.held terms.trace) ≡ true
  pub inputs : (input : Input) → FaultsRose old new input → ⊥
  pub fore : OutputFaultsRose old new Fore → ⊥
  pub back : OutputFaultsRose old new Back → ⊥
  pub copied : OutputFaultsRose old new Copied → ⊥

-- the array was replayed, unless memory ran out
abbrev pub IsReplayed : Outcome → Type 0
IsReplayed (outcomes.Arrayed runs copy) = Unit {0}
IsReplayed outcomes.NoMemory = Unit {0}
IsReplayed outcome = ⊥
