-- What the accepted inputs of an array mean.
use Rattle.std.specs.Prelude.{◌≡◌, ◌⊎◌, ℕ, List, [], length, map, Bool, true, false, nat_eq, Option, Some, None, Ok, Err, if◌then◌else◌, is_some}
use Rattle.fb_geometry.specs.Shape.{Shape}
use Rattle.fb_geometry.specs.Places.{places}
use Rattle.fb_service.specs.declared.disk.Disk.{Disk}
use Rattle.fb_trace.specs.Reading.{Accepted}
use Rattle.fb_trace.specs.Devices.{traces_of}
use Rattle.fb_trace.specs.Verdict.{accepted}
use Rattle.fb_trace.specs.declared.trace.TraceFault.{TraceFault}
use Rattle.fb_calls.specs.Reading.{Accepted as Script, calls_of, fault_at}
use Rattle.fb_calls.specs.Verdict.{accepted as accepted_calls}
use Rattle.fb_calls.specs.declared.fault.CallsFault.{CallsFault}
use Rattle.fb_calls.specs.declared.fault.CallsReason.TheVariants.{TooManyBlocks}
use Rattle.fb_mirror.specs.Script.{rebuild_text}
use Rattle.fb_model.specs.Inputs.{Inputs}
use Rattle.fb_desk.specs.View.{DeskView}
use Rattle.fb_desk.specs.declared.desk.Input.TheVariants.{Trace}
use Rattle.fb_words.specs.Command.{ArrayTerms, RebuildTerms}
use Rattle.fb_inputs.specs.declared.devices.ArrayFiles.{ArrayFiles}
use Rattle.fb_inputs.specs.Read.{Files, ReadsDisk, inputs_of_files, key_of}
use Rattle.fb_inputs.specs.declared.error.InputsError.{InputsError}
use Rattle.fb_inputs.specs.declared.error.InputsError.TheVariants as faults
use Rattle.fb_inputs.specs.Causes.{AcceptsDisk, EndsAt, IsFault, StopsInputs, StopsReading}
use Rattle.fb_inputs.specs.Limits.{limit_of}
use Rattle.fb_streams.specs.Names.{array_names}
use Rattle.fb_streams.specs.Streams.{ReadsAs}

-- the trace under a name is accepted for each device of this disk, with these requests, by device
abbrev pub ReadsTraces : DeskView → List ℕ → ℕ → Disk → List Accepted → Type 0
ReadsTraces desk name devices disk traces = ReadsAs desk name (limit_of Trace) (traces_of devices (length (places disk.map))) (Ok traces)

-- or refused for one of them, and the least that is has this fault
abbrev pub RefusesTraces : DeskView → List ℕ → ℕ → Disk → TraceFault → Type 0
RefusesTraces desk name devices disk fault = ReadsAs desk name (limit_of Trace) (traces_of devices (length (places disk.map))) (Err fault)

-- the calls that the script of the rebuild reads as, whatever the trace; without a rebuild there are none
abbrev pub ReadsRebuild : Option RebuildTerms → Shape → Script → Type 0
ReadsRebuild None disk script = script ≡ record { names = []; calls = [] }
ReadsRebuild (Some rebuild) disk script = (traced : ℕ) → calls_of disk traced (rebuild_text disk) ≡ Ok script

-- the script of a rebuild is refused, whatever the trace, since it asks for too many blocks
pub record RefusesRebuild (disk : Shape) (fault : CallsFault) : Type 0 where
  pub spells : (traced : ℕ) → calls_of disk traced (rebuild_text disk) ≡ Err fault
  pub reason : fault ≡ fault_at 2 TooManyBlocks

-- what the files of an array say: one disk, the trace of each device, and the calls of the rebuild
pub record Array : Type 0 where
  pub disk : Disk
  pub latent : List ℕ
  pub traces : List Accepted
  pub script : Script

abbrev pub array_of : ArrayFiles → Array
array_of read = record {
  disk = read.params.disk;
  latent = read.params.latent.items;
  traces = map accepted read.traces.items;
  script = accepted_calls read.calls;
}

-- all that the words name is accepted, and says this
pub record AcceptsArray (desk : DeskView) (terms : ArrayTerms) (array : Array) : Type 0 where
  pub disk : ReadsDisk desk terms.params array.disk array.latent
  pub traces : ReadsTraces desk terms.trace terms.devices array.disk array.traces
  pub script : ReadsRebuild terms.rebuild array.disk.map array.script

-- the rebuild is made from this device
abbrev pub is_rebuilt_from : Option RebuildTerms → ℕ → Bool
is_rebuilt_from None device = false
is_rebuilt_from (Some rebuild) device = nat_eq rebuild.device device

-- what the replay of a device has: a trace, and the calls of the rebuild if that is made from the device
abbrev pub device_files : Option RebuildTerms → Array → ℕ → Accepted → Files
device_files rebuild array device trace = record {
  disk = array.disk;
  latent = array.latent;
  trace = trace;
  script = if is_rebuilt_from rebuild device then array.script else record { names = []; calls = [] };
}

-- what the run of a device is made from
abbrev pub device_inputs : ArrayTerms → Array → ℕ → Accepted → Inputs
device_inputs terms array device trace = inputs_of_files (device_files terms.rebuild array device trace) (key_of terms.policy) terms.until

-- an accepted disk, and a trace that is refused for one of the devices
pub record RefusesDeviceInTurn (desk : DeskView) (terms : ArrayTerms) (fault : TraceFault) : Type 0 where
  pub before : AcceptsDisk desk terms.params
  pub refuses : RefusesTraces desk terms.trace terms.devices before.disk fault

-- an accepted disk and a trace that is accepted for all devices, and a script of the rebuild that is refused
pub record RefusesRebuildInTurn (desk : DeskView) (terms : ArrayTerms) (fault : CallsFault) : Type 0 where
  pub before : AcceptsDisk desk terms.params
  pub traces : List Accepted
  pub reads_traces : ReadsTraces desk terms.trace terms.devices before.disk traces
  pub given : is_some terms.rebuild ≡ true
  pub refuses : RefusesRebuild before.disk.map fault

-- why the inputs of an array were not all accepted; where the script of the rebuild is refused, no script was read, and the trace was the
-- last input
abbrev pub StopsArray : ArrayTerms → DeskView → DeskView → InputsError → Type 0
StopsArray terms old new (faults.Trace fault) = RefusesDeviceInTurn old terms fault × EndsAt Trace old new
StopsArray terms old new (faults.Calls fault) = RefusesRebuildInTurn old terms fault × EndsAt Trace old new
StopsArray terms old new error = StopsInputs (array_names terms) old new error

-- why no trace was read
abbrev pub StopsTraces : List ℕ → ℕ → Disk → DeskView → DeskView → InputsError → Type 0
StopsTraces name devices disk old new error =
    IsFault faults.Trace (RefusesTraces old name devices disk) error ⊎ StopsReading Trace name old new error

-- why a rebuild has no calls
abbrev pub StopsRebuild : Option RebuildTerms → Shape → InputsError → Type 0
StopsRebuild rebuild disk (faults.Calls fault) = (is_some rebuild ≡ true) × RefusesRebuild disk fault
StopsRebuild rebuild disk faults.NoMemory = Unit {0}
StopsRebuild rebuild disk _ = ⊥
