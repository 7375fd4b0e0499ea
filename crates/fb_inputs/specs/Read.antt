-- What the accepted inputs of a replay or a check mean.
use Rattle.std.specs.Prelude.{◌≡◌, ℕ, ◌≤◌, List, [], length, Option, Some, None, Ok, Err}
use Rattle.std.specs.List.{flat_map}
use Rattle.fb_geometry.specs.Places.{places}
use Rattle.fb_service.specs.declared.disk.Disk.{Disk}
use Rattle.fb_params.specs.Reading.{params_of}
use Rattle.fb_params.specs.declared.fault.ParamsFault.{ParamsFault}
use Rattle.fb_trace.specs.Reading.{Accepted, trace_of}
use Rattle.fb_trace.specs.Verdict.{accepted}
use Rattle.fb_trace.specs.declared.trace.TraceFault.{TraceFault}
use Rattle.fb_calls.specs.Reading.{Accepted as Script, calls_of}
use Rattle.fb_calls.specs.Verdict.{accepted as accepted_calls}
use Rattle.fb_calls.specs.declared.fault.CallsFault.{CallsFault}
use Rattle.fb_puts.specs.Asked.{asked}
use Rattle.fb_puts.specs.Reading.{Accepted as PutsRead, Terms as PutsTerms, puts_of}
use Rattle.fb_puts.specs.declared.fault.PutsFault.{PutsFault}
use Rattle.fb_model.specs.Inputs.{Inputs}
use Rattle.fb_model.specs.PlainReplay.{Key, fcfs, sstf, clook, sptf}
use Rattle.fb_desk.specs.View.{DeskView}
use Rattle.fb_desk.specs.declared.desk.Input.TheVariants as inputs
use Rattle.fb_words.specs.declared.command.Policy.{Policy}
use Rattle.fb_words.specs.declared.command.Policy.TheVariants.{Fcfs, Sstf, Clook, Sptf}
use Rattle.fb_report.specs.Grammar.{Grammar, LineFields, report_of, spelled}
use Rattle.fb_inputs.specs.declared.reading.RunFiles.{RunFiles}
use Rattle.fb_inputs.specs.Limits.{limit_of, report_limit}
use Rattle.fb_streams.specs.Names.{FileNames}
use Rattle.fb_streams.specs.Streams.{IsHeld, ReadsAs}

-- the parameter file under a name is accepted, with this disk and these latent sectors
abbrev pub ReadsDisk : DeskView → List ℕ → Disk → List ℕ → Type 0
ReadsDisk desk name disk latent = ReadsAs desk name (limit_of inputs.Params) params_of
    (Ok (record { outline = disk.map; mechanics = disk.mechanism; sector_bytes = disk.sector_bytes; latent = latent }))

-- or refused, with this fault
abbrev pub RefusesDisk : DeskView → List ℕ → ParamsFault → Type 0
RefusesDisk desk name fault = ReadsAs desk name (limit_of inputs.Params) params_of (Err fault)

-- the trace under a name is accepted for a device of the disk, with these requests
abbrev pub ReadsTrace : DeskView → List ℕ → ℕ → Disk → Accepted → Type 0
ReadsTrace desk name device disk trace = ReadsAs desk name (limit_of inputs.Trace) (trace_of device (length (places disk.map))) (Ok trace)

-- or refused, with this fault
abbrev pub RefusesTrace : DeskView → List ℕ → ℕ → Disk → TraceFault → Type 0
RefusesTrace desk name device disk fault =
    ReadsAs desk name (limit_of inputs.Trace) (trace_of device (length (places disk.map))) (Err fault)

-- the script under a name is accepted for the disk and a trace of this many requests, with these names and calls
abbrev pub ReadsCalls : DeskView → List ℕ → Disk → ℕ → Script → Type 0
ReadsCalls desk name disk traced script = ReadsAs desk name (limit_of inputs.Calls) (calls_of disk.map traced) (Ok script)

-- or refused, with this fault
abbrev pub RefusesCalls : DeskView → List ℕ → Disk → ℕ → CallsFault → Type 0
RefusesCalls desk name disk traced fault = ReadsAs desk name (limit_of inputs.Calls) (calls_of disk.map traced) (Err fault)

-- the script under the name that is given; without one there are no names and no calls
abbrev pub ReadsScript : DeskView → Option (List ℕ) → Disk → ℕ → Script → Type 0
ReadsScript desk None disk traced script = script ≡ record { names = []; calls = [] }
ReadsScript desk (Some name) disk traced script = ReadsCalls desk name disk traced script

-- what the files of a run say
pub record Files : Type 0 where
  pub disk : Disk
  pub latent : List ℕ
  pub trace : Accepted
  pub script : Script

abbrev pub files_of : RunFiles → Files
files_of read = record {
  disk = read.params.disk;
  latent = read.params.latent.items;
  trace = accepted read.trace;
  script = accepted_calls read.calls;
}

-- all files that the words name are accepted, each for those before it, and say this
pub record Accepts (desk : DeskView) (names : FileNames) (files : Files) : Type 0 where
  pub disk : ReadsDisk desk names.params files.disk files.latent
  pub trace : ReadsTrace desk names.trace names.device files.disk files.trace
  pub script : ReadsScript desk names.calls files.disk (length files.trace.requests) files.script

-- what a puts file is judged by: the disk, and all that the trace and the script ask for
abbrev pub puts_terms : Files → PutsTerms
puts_terms files = record { sectors = length (places files.disk.map); asked = asked files.trace.requests files.script.calls }

-- the puts file under a name is accepted for these files, with this reserve and these puts
abbrev pub ReadsPuts : DeskView → List ℕ → Files → PutsRead → Type 0
ReadsPuts desk name files puts = ReadsAs desk name (limit_of inputs.Puts) (puts_of (puts_terms files)) (Ok puts)

-- or refused, with this fault
abbrev pub RefusesPuts : DeskView → List ℕ → Files → PutsFault → Type 0
RefusesPuts desk name files fault = ReadsAs desk name (limit_of inputs.Puts) (puts_of (puts_terms files)) (Err fault)

-- the puts under the name that is given; without a name there are none
abbrev pub AcceptsPuts : DeskView → Option (List ℕ) → Files → Option PutsRead → Type 0
AcceptsPuts desk None files None = Unit {0}
AcceptsPuts desk (Some name) files (Some puts) = ReadsPuts desk name files puts
AcceptsPuts desk _ files _ = ⊥

-- the key of a policy
abbrev pub key_of : Policy → Key
key_of Fcfs = fcfs
key_of Sstf = sstf
key_of Clook = clook
key_of Sptf = sptf

-- what a run is made from
abbrev pub inputs_of_files : Files → Key → ℕ → Inputs
inputs_of_files files key until = record {
  disk = files.disk;
  latent = files.latent;
  trace = files.trace.requests;
  passed_over = files.trace.passed_over;
  calls = files.script.calls;
  key = key;
  until = until;
}

-- the report under a name is accepted by its grammar, with these lines
pub record ReadsReport (desk : DeskView) (name : List ℕ) (grammar : Grammar) (lines : List LineFields) : Type 0 where
  pub bytes : List ℕ
  pub held : IsHeld desk name bytes
  pub within : length bytes ≤ report_limit
  pub spells : report_of grammar bytes ≡ Ok lines
  pub whole : flat_map spelled lines ≡ bytes

-- or refused, from this line
abbrev pub RefusesReport : DeskView → List ℕ → Grammar → ℕ → Type 0
RefusesReport desk name grammar line = ReadsAs desk name report_limit (report_of grammar) (Err line)
