-- What was read or written later, told of the desk at the start.
use Rattle.std.proofs.Common.{◌≡◌, ℕ, ◌<◌, ◌≤◌, ◌^◌, List, [], ◌∷◌, length, Option, Some, None, true, refl, sym, subst, ◌⊎◌, inl, inr}
use Rattle.std.specs.Prelude.{IfSome, is_some}
use Rattle.std.specs.List.{AllByRecursion}
use Rattle.fb_units.specs.declared.types.Request.{Request}
use Rattle.fb_geometry.specs.Places.{places}
use Rattle.fb_service.specs.declared.disk.Disk.{Disk}
use Rattle.fb_trace.specs.Servable.{IsServable, IsTraceOf}
use Rattle.fb_script.specs.Allowed.{IsScript}
use Rattle.fb_calls.specs.Reading.{Accepted as Script}
use Rattle.fb_model.specs.Accepted.{IsAccepted, IsRequestOf}
use Rattle.fb_model.specs.PlainReplay.{Key}
use Rattle.fb_desk.specs.Calls.{Rose}
use Rattle.fb_desk.specs.View.{DeskView, InputView}
use Rattle.fb_desk.specs.declared.desk.Input.{Input}
use Rattle.fb_desk.specs.declared.desk.Input.TheVariants.{Params, Trace, Calls, Puts, ForeReport, BackReport}
use Rattle.fb_puts.specs.Reading.{Accepted as PutsRead}
use Rattle.fb_report.specs.Forms.{grammar_of}
use Rattle.fb_streams.specs.Names.{InputNames, FileNames, name_of}
use Rattle.fb_inputs.specs.declared.error.InputsError.{InputsError}
use Rattle.fb_inputs.specs.declared.error.InputsError.TheVariants as faults
use Rattle.fb_inputs.specs.Read.{AcceptsPuts, Files, ReadsScript, RefusesReport, inputs_of_files}
use Rattle.fb_streams.specs.Streams.{ReadsAs}
use Rattle.fb_inputs.specs.Causes.{AcceptsBefore, AcceptsDisk, AcceptsFiles, AcceptsTrace, EndsAt, IsTooLong, IsUnread, StopsCalls}
use Rattle.fb_inputs.specs.Causes.{StopsGivenPuts}
use Rattle.fb_inputs.specs.Causes.{StopsDisk, StopsInputs, StopsPuts, StopsReading, StopsReport, StopsScript, StopsTrace}
use Rattle.fb_inputs.specs.Limits.{limit_of}

-- bytes that are read later are read alike before
pub reads_before : {A : Type 0} {old mid : DeskView} {name : List ℕ} {limit : ℕ} {read : List ℕ → A} {verdict : A}
    → mid.held name ≡ old.held name
    → ReadsAs mid name limit read verdict → ReadsAs old name limit read verdict
reads_before same reads = record {
  bytes = reads.bytes;
  held = subst (λ (told : Option (List ℕ)). IfSome told (λ held. reads.bytes ≡ held)) same reads.held;
  within = reads.within;
  spells = reads.spells;
}

-- and so the script that is given
pub script_before : (old late : DeskView) (given : Option (List ℕ)) (disk : Disk) (traced : ℕ) (script : Script)
    → ((name : List ℕ) → late.held name ≡ old.held name) → ReadsScript late given disk traced script → ReadsScript old given disk traced script
script_before old late None disk traced script held reads = reads
script_before old late (Some name) disk traced script held reads = reads_before (held name) reads

-- and the puts
pub puts_before : (old late : DeskView) (given : Option (List ℕ)) (files : Files) (puts : Option PutsRead)
    → ((name : List ℕ) → late.held name ≡ old.held name) → AcceptsPuts late given files puts → AcceptsPuts old given files puts
puts_before old late None files None held reads = reads
puts_before old late (Some name) files (Some puts) held reads = reads_before (held name) reads
puts_before old late _ files _ held reads = absurd reads

pub has_name : (given : Option (List ℕ)) (name : List ℕ) → given ≡ Some name → is_some given ≡ true
has_name given name e = cc

-- why an input was not read whole, told of the desk at the start; those before it are accepted
module _ (terms : InputNames) (old mid new : DeskView) (input : Input) (before : AcceptsBefore old terms input)
    (name : List ℕ) (given : name_of terms input ≡ Some name)
    (held : mid.held name ≡ old.held name) (same : mid.inputs input ≡ old.inputs input) (ends : EndsAt input old new) where
  pub at_reading : (error : InputsError) → StopsReading input name mid new error → StopsInputs terms old new error
  at_reading (faults.TooLong which) h =
      let longer = subst (λ (told : Option (List ℕ)). IfSome told (λ bytes. limit_of input < length bytes)) held h.1 in
      subst (λ (i : Input). IsTooLong old terms i × EndsAt i old new) (sym h.0)
      (record { before = before; name = name; given = given; longer = longer }, ends)
  at_reading (faults.ReadFault which) h =
      let rose = subst (λ (v : InputView). Rose v.faults (new.inputs input).faults) same h.1 in
      subst (λ (i : Input). IsUnread old new terms i × EndsAt i old new) (sym h.0)
      (record { before = before; given = has_name (name_of terms input) name given; rose = rose }, ends)
  at_reading faults.NoMemory h = record { input = input; before = before; ends = ends }
  at_reading _ h = absurd h

-- the same names with those of other files
abbrev pub on : InputNames → FileNames → InputNames
on names files = record { files = files; puts = names.puts; fore = names.fore; back = names.back }

pub with_files : (names : InputNames) (files : FileNames) (old new : DeskView) (error : InputsError) → names.files ≡ files
    → StopsInputs (on names files) old new error → StopsInputs names old new error
with_files names files old new error same stops = subst (λ (f : FileNames). StopsInputs (on names f) old new error) (sym same) stops

-- why the parameter file was not read
pub at_params : (terms : InputNames) (old new : DeskView) (error : InputsError) → EndsAt Params old new
    → StopsDisk terms.files.params old new error → StopsInputs terms old new error
at_params terms old new error ends (inl h) = subst (StopsInputs terms old new) (sym h.1) (h.2, ends)
at_params terms old new error ends (inr h) = at_reading terms old old new Params tt terms.files.params refl refl refl ends error h

-- later inputs: those before are accepted, and held and untouched until then
module _ (terms : InputNames) (old mid new : DeskView) (held : (name : List ℕ) → mid.held name ≡ old.held name) (error : InputsError) where
  -- why the trace was not read
  pub at_trace : (before : AcceptsDisk old terms.files.params) → mid.inputs Trace ≡ old.inputs Trace → EndsAt Trace old new
      → StopsTrace terms.files.trace terms.files.device before.disk mid new error → StopsInputs terms old new error
  at_trace before same ends (inl h) =
      subst (StopsInputs terms old new) (sym h.1) (record { before = before; refuses = reads_before (held terms.files.trace) h.2 }, ends)
  at_trace before same ends (inr h) =
      at_reading terms old mid new Trace before terms.files.trace refl (held terms.files.trace) same ends error h

  at_calls : (before : AcceptsTrace old terms.files) (name : List ℕ) → terms.files.calls ≡ Some name
      → mid.inputs Calls ≡ old.inputs Calls → EndsAt Calls old new
      → StopsCalls name before.params.disk (length before.trace.requests) mid new error → StopsInputs terms old new error
  at_calls before name given same ends (inl h) = subst (StopsInputs terms old new) (sym h.1)
      (record { before = before; name = name; given = given; refuses = reads_before (held name) h.2 }, ends)
  at_calls before name given same ends (inr h) = at_reading terms old mid new Calls before name given (held name) same ends error h

  -- why the script that is given was not read
  pub at_script : (before : AcceptsTrace old terms.files) → mid.inputs Calls ≡ old.inputs Calls → EndsAt Calls old new
      → StopsScript terms.files.calls before.params.disk (length before.trace.requests) mid new error → StopsInputs terms old new error
  at_script before same ends h = at_calls before h.0 h.1 same ends h.2

  at_named_puts : (before : AcceptsFiles old terms.files) (name : List ℕ) → terms.puts ≡ Some name → mid.inputs Puts ≡ old.inputs Puts
      → EndsAt Puts old new → StopsPuts name before.files mid new error → StopsInputs terms old new error
  at_named_puts before name given same ends (inl h) = subst (StopsInputs terms old new) (sym h.1)
      (record { before = before; name = name; given = given; refuses = reads_before (held name) h.2 }, ends)
  at_named_puts before name given same ends (inr h) = at_reading terms old mid new Puts before name given (held name) same ends error h

  -- why the puts that are given were not read
  pub at_puts : (before : AcceptsFiles old terms.files) → mid.inputs Puts ≡ old.inputs Puts → EndsAt Puts old new
      → StopsGivenPuts terms.puts before.files mid new error → StopsInputs terms old new error
  at_puts before same ends h = at_named_puts before h.0 h.1 same ends h.2

  -- why a report was not read
  pub at_report : (report : Input) → (report ≡ ForeReport) ⊎ (report ≡ BackReport) → (before : AcceptsBefore old terms report) (name : List ℕ)
      → name_of terms report ≡ Some name → mid.inputs report ≡ old.inputs report → EndsAt report old new
      → StopsReport report name mid new error → StopsInputs terms old new error
  at_report report is before name given same ends (inl h) =
      let here : report ≡ h.0.input = sym h.2.0 in
      subst (StopsInputs terms old new) (sym h.1) (
        record {
          report = subst (λ (i : Input). (i ≡ ForeReport) ⊎ (i ≡ BackReport)) here is;
          before = subst (AcceptsBefore old terms) here before;
          name = name;
          given = subst (λ (i : Input). name_of terms i ≡ Some name) here given;
          refuses = reads_before (held name) (subst (λ (i : Input). RefusesReport mid name (grammar_of i) h.0.line) here h.2.1);
        },
        subst (λ (i : Input). EndsAt i old new) here ends,
      )
  at_report report is before name given same ends (inr h) = at_reading terms old mid new report before name given (held name) same ends error h

all_requests : (disk : Disk) (requests : List Request) → AllByRecursion (IsServable (length (places disk.map))) requests
    → AllByRecursion (IsRequestOf disk.map) requests
all_requests disk [] all = tt
all_requests disk (request ∷ requests) all = (
  record { range = record { some = all.0.some; inside = all.0.inside }; few = all.0.few; arrival = all.0.arrival },
  all_requests disk requests all.1,
)

-- what was read can be replayed
pub is_accepted : (files : Files) (key : Key) (until : ℕ) → AllByRecursion (λ lbn. lbn < length (places files.disk.map)) files.latent
    → IsTraceOf (length (places files.disk.map)) files.trace.requests
    → IsScript files.disk.map (length files.trace.requests) files.script.calls → until ≤ 10 ^ 15
    → IsAccepted (inputs_of_files files key until)
is_accepted files key until inside trace script late = record {
  latent = inside;
  requests = all_requests files.disk files.trace.requests trace.servable;
  names = trace.names;
  arrivals = trace.arrivals;
  instants = script.instants;
  calls = script.allowed;
  few_calls = script.few_calls;
  few_blocks = script.few_blocks;
  few_requests = script.few_reads trace.few;
  until = late;
}
