-- Why inputs were not all accepted.
use Rattle.std.specs.Prelude.{◌≡◌, ◌⊎◌, ℕ, List, length, true, Option, Some, is_some}
use Rattle.fb_service.specs.declared.disk.Disk.{Disk}
use Rattle.fb_desk.specs.Calls.{Rose}
use Rattle.fb_desk.specs.View.{DeskView}
use Rattle.fb_desk.specs.declared.desk.Input.{Input}
use Rattle.fb_desk.specs.declared.desk.Input.TheVariants.{Params, Trace, Calls, Puts, ForeReport, BackReport}
use Rattle.fb_trace.specs.Reading.{Accepted}
use Rattle.fb_trace.specs.declared.trace.TraceFault.{TraceFault}
use Rattle.fb_calls.specs.declared.fault.CallsFault.{CallsFault}
use Rattle.fb_puts.specs.declared.fault.PutsFault.{PutsFault}
use Rattle.fb_report.specs.Forms.{grammar_of}
use Rattle.fb_report.specs.Grammar.{LineFields, fore_grammar}
use Rattle.fb_report.specs.declared.reading.ReportsFault.{ReportsFault}
use Rattle.fb_inputs.specs.declared.error.InputsError.{InputsError}
use Rattle.fb_inputs.specs.declared.error.InputsError.TheVariants as faults
use Rattle.fb_streams.specs.Names.{FileNames, InputNames, name_of}
use Rattle.fb_inputs.specs.Read.{Files, Accepts, ReadsDisk, ReadsTrace, ReadsReport, RefusesDisk, RefusesTrace, RefusesCalls, RefusesPuts}
use Rattle.fb_inputs.specs.Read.{RefusesReport}
use Rattle.fb_inputs.specs.Account.{KeepsLater}
use Rattle.fb_inputs.specs.Limits.{limit_of}
use Rattle.fb_streams.specs.Streams.{IsLonger, KeepsOutputs}

-- a count of faults rose
abbrev pub FaultsRose : DeskView → DeskView → Input → Type 0
FaultsRose old new input = Rose (old.inputs input).faults (new.inputs input).faults

-- an accepted parameter file
pub record AcceptsDisk (desk : DeskView) (name : List ℕ) : Type 0 where
  pub disk : Disk
  pub latent : List ℕ
  pub reads_disk : ReadsDisk desk name disk latent

-- and a trace that is accepted for it
pub record AcceptsTrace (desk : DeskView) (names : FileNames) : Type 0 where
  pub params : AcceptsDisk desk names.params
  pub trace : Accepted
  pub reads_trace : ReadsTrace desk names.trace names.device params.disk trace

-- all files of a run that are accepted
pub record AcceptsFiles (desk : DeskView) (names : FileNames) : Type 0 where
  pub files : Files
  pub accepts : Accepts desk names files

-- and a foreground report that is accepted
pub record AcceptsFore (desk : DeskView) (names : InputNames) : Type 0 where
  pub files : AcceptsFiles desk names.files
  pub name : List ℕ
  pub given : names.fore ≡ Some name
  pub lines : List LineFields
  pub reads_fore : ReadsReport desk name fore_grammar lines

-- the inputs that come before this one are accepted
abbrev pub AcceptsBefore : DeskView → InputNames → Input → Type 0
AcceptsBefore desk names Params = Unit {0}
AcceptsBefore desk names Trace = AcceptsDisk desk names.files.params
AcceptsBefore desk names Calls = AcceptsTrace desk names.files
AcceptsBefore desk names Puts = AcceptsFiles desk names.files
AcceptsBefore desk names ForeReport = AcceptsFiles desk names.files
AcceptsBefore desk names BackReport = AcceptsFore desk names

-- no input that is read after this one was touched, and no output
pub record EndsAt (input : Input) (old new : DeskView) : Type 0 where
  pub later : KeepsLater input old new
  pub outputs : KeepsOutputs old new

-- an accepted disk, and a trace that is refused for it
pub record RefusesTraceInTurn (desk : DeskView) (names : FileNames) (fault : TraceFault) : Type 0 where
  pub before : AcceptsDisk desk names.params
  pub refuses : RefusesTrace desk names.trace names.device before.disk fault

-- an accepted disk and an accepted trace, and a script that is refused for them
pub record RefusesCallsInTurn (desk : DeskView) (names : FileNames) (fault : CallsFault) : Type 0 where
  pub before : AcceptsTrace desk names
  pub name : List ℕ
  pub given : names.calls ≡ Some name
  pub refuses : RefusesCalls desk name before.params.disk (length before.trace.requests) fault

-- accepted files, and puts that are refused for them
pub record RefusesPutsInTurn (desk : DeskView) (names : InputNames) (fault : PutsFault) : Type 0 where
  pub before : AcceptsFiles desk names.files
  pub name : List ℕ
  pub given : names.puts ≡ Some name
  pub refuses : RefusesPuts desk name before.files fault

-- accepted files, and a report that is refused; before the background report the foreground report is accepted
pub record RefusesReportInTurn (desk : DeskView) (names : InputNames) (fault : ReportsFault) : Type 0 where
  pub report : (fault.input ≡ ForeReport) ⊎ (fault.input ≡ BackReport)
  pub before : AcceptsBefore desk names fault.input
  pub name : List ℕ
  pub given : name_of names fault.input ≡ Some name
  pub refuses : RefusesReport desk name (grammar_of fault.input) fault.line

-- an input that the words give has more bytes than it may have; the inputs before it are accepted
pub record IsTooLong (desk : DeskView) (names : InputNames) (input : Input) : Type 0 where
  pub before : AcceptsBefore desk names input
  pub name : List ℕ
  pub given : name_of names input ≡ Some name
  pub longer : IsLonger desk name (limit_of input)

-- a call of an input that the words give has failed; the inputs before it are accepted
pub record IsUnread (old new : DeskView) (names : InputNames) (input : Input) : Type 0 where
  pub before : AcceptsBefore old names input
  pub given : is_some (name_of names input) ≡ true
  pub rose : FaultsRose old new input

-- memory ran out at an input, or after all of them: those before it are accepted, and nothing after it was touched
pub record RunsOut (old new : DeskView) (names : InputNames) : Type 0 where
  pub input : Input
  pub before : AcceptsBefore old names input
  pub ends : EndsAt input old new

-- why the inputs were not all accepted
abbrev pub StopsInputs : InputNames → DeskView → DeskView → InputsError → Type 0
StopsInputs names old new (faults.Params fault) = RefusesDisk old names.files.params fault × EndsAt Params old new
StopsInputs names old new (faults.Trace fault) = RefusesTraceInTurn old names.files fault × EndsAt Trace old new
StopsInputs names old new (faults.Calls fault) = RefusesCallsInTurn old names.files fault × EndsAt Calls old new
StopsInputs names old new (faults.Puts fault) = RefusesPutsInTurn old names fault × EndsAt Puts old new
StopsInputs names old new (faults.Reports fault) = RefusesReportInTurn old names fault × EndsAt fault.input old new
StopsInputs names old new (faults.TooLong input) = IsTooLong old names input × EndsAt input old new
StopsInputs names old new (faults.ReadFault input) = IsUnread old new names input × EndsAt input old new
StopsInputs names old new faults.NoMemory = RunsOut old new names

-- why an input was not read whole
abbrev pub StopsReading : Input → List ℕ → DeskView → DeskView → InputsError → Type 0
StopsReading input name old new (faults.TooLong which) = (which ≡ input) × IsLonger old name (limit_of input)
StopsReading input name old new (faults.ReadFault which) = (which ≡ input) × FaultsRose old new input
StopsReading input name old new faults.NoMemory = Unit {0}
StopsReading input name old new _ = ⊥

-- the error is of this kind, and its fault is one for which the input is refused
abbrev pub IsFault : {F : Type 0} → (F → InputsError) → (F → Type 0) → InputsError → Type 0
IsFault {F} kind Refuses error = (fault : F) × (error ≡ kind fault) × Refuses fault

-- why no disk was read
abbrev pub StopsDisk : List ℕ → DeskView → DeskView → InputsError → Type 0
StopsDisk name old new error = IsFault faults.Params (RefusesDisk old name) error ⊎ StopsReading Params name old new error

-- why no trace was read
abbrev pub StopsTrace : List ℕ → ℕ → Disk → DeskView → DeskView → InputsError → Type 0
StopsTrace name device disk old new error =
    IsFault faults.Trace (RefusesTrace old name device disk) error ⊎ StopsReading Trace name old new error

-- why no script was read
abbrev pub StopsCalls : List ℕ → Disk → ℕ → DeskView → DeskView → InputsError → Type 0
StopsCalls name disk traced old new error =
    IsFault faults.Calls (RefusesCalls old name disk traced) error ⊎ StopsReading Calls name old new error

-- why no script was read where one is given
abbrev pub StopsScript : Option (List ℕ) → Disk → ℕ → DeskView → DeskView → InputsError → Type 0
StopsScript given disk traced old new error = (name : List ℕ) × (given ≡ Some name) × StopsCalls name disk traced old new error

-- why no puts were read
abbrev pub StopsPuts : List ℕ → Files → DeskView → DeskView → InputsError → Type 0
StopsPuts name files old new error = IsFault faults.Puts (RefusesPuts old name files) error ⊎ StopsReading Puts name old new error

-- why no puts were read where they are given
abbrev pub StopsGivenPuts : Option (List ℕ) → Files → DeskView → DeskView → InputsError → Type 0
StopsGivenPuts given files old new error = (name : List ℕ) × (given ≡ Some name) × StopsPuts name files old new error

-- a report is refused, from a line of it
abbrev pub RefusesLine : Input → List ℕ → DeskView → ReportsFault → Type 0
RefusesLine report name desk fault = (fault.input ≡ report) × RefusesReport desk name (grammar_of report) fault.line

-- why the lines of a report are not known: no text was read, or it is refused
abbrev pub StopsReport : Input → List ℕ → DeskView → DeskView → InputsError → Type 0
StopsReport report name old new error = IsFault faults.Reports (RefusesLine report name old) error ⊎ StopsReading report name old new error
