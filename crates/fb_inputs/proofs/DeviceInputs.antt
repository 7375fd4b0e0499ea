-- Why the inputs of an array were not all accepted, and what they mean where they were.
use Rattle.std.proofs.Common.{◌≡◌, ℕ, ◌<◌, ◌≤◌, ◌^◌, List, [], get_or, length, map, Option, Some, None, true, false, refl, sym, ap, subst}
use Rattle.std.proofs.Common.{◌∙◌, arith, inl, inr}
use Rattle.std.specs.Prelude.{slice_get}
use Rattle.std.specs.List.{AllByRecursion}
use Rattle.std.specs.Option.{option_map}
use Rattle.std.proofs.lemmas.Bool.{cases_Bool}
use Rattle.std.proofs.lemmas.Option.{slice_get-map, slice_get_read}
use Rattle.fb_units.proofs.Lists.{all_get}
use Rattle.fb_geometry.specs.Shape.{Shape}
use Rattle.fb_geometry.specs.Places.{places}
use Rattle.fb_trace.specs.Reading.{Accepted}
use Rattle.fb_trace.specs.Servable.{IsTraceOf}
use Rattle.fb_trace.specs.Verdict.{accepted}
use Rattle.fb_trace.specs.declared.trace.Trace.{Trace as DeclaredTrace}
use Rattle.fb_script.specs.Allowed.{IsScript, tasks}
use Rattle.fb_script.specs.declared.call.Call.{Call}
use Rattle.fb_script.specs.declared.call.Calls.{Calls as DeclaredCalls}
use Rattle.fb_model.specs.Accepted.{IsAccepted}
use Rattle.fb_model.specs.Inputs.{Inputs}
use Rattle.fb_desk.specs.View.{DeskView}
use Rattle.fb_desk.specs.declared.desk.Input.{Input}
use Rattle.fb_desk.specs.declared.desk.Input.TheVariants.{Params, Trace}
use Rattle.fb_words.specs.Command.{ArrayTerms, RebuildTerms}
use Rattle.fb_inputs.specs.declared.error.InputsError.{InputsError}
use Rattle.fb_inputs.specs.declared.error.InputsError.TheVariants as faults
use Rattle.fb_streams.specs.Names.{array_names}
use Rattle.fb_inputs.specs.Read.{key_of}
use Rattle.fb_inputs.specs.Causes.{AcceptsDisk, EndsAt, StopsDisk, StopsInputs, StopsReading}
use Rattle.fb_inputs.specs.Devices.{Array, ReadsTraces, StopsArray, StopsRebuild, StopsTraces, device_files, device_inputs}
use Rattle.fb_inputs.specs.Devices.{is_rebuilt_from}
use Rattle.fb_inputs.proofs.Later.{at_params, at_reading, is_accepted, reads_before}

-- an input that was not read whole has no fault of its own
array_unread : (terms : ArrayTerms) (old new : DeskView) (error : InputsError) (input : Input) (name : List ℕ) (mid : DeskView)
    → StopsInputs (array_names terms) old new error → StopsReading input name mid new error → StopsArray terms old new error
array_unread terms old new (faults.Trace fault) input name mid stops h = absurd h
array_unread terms old new (faults.Calls fault) input name mid stops h = absurd h
array_unread terms old new _ input name mid stops h = stops

-- why the parameter file was not read
pub array_at_params : (terms : ArrayTerms) (old new : DeskView) (error : InputsError) → EndsAt Params old new
    → StopsDisk terms.params old new error → StopsArray terms old new error
array_at_params terms old new error ends (inl h) = subst (StopsArray terms old new) (sym h.1) (h.2, ends)
array_at_params terms old new error ends (inr h) = array_unread terms old new error Params terms.params old
    (at_params (array_names terms) old new error ends (inr h)) h

-- why the trace was not read
pub array_at_trace : (terms : ArrayTerms) (old mid new : DeskView) (error : InputsError) (before : AcceptsDisk old terms.params)
    → mid.held terms.trace ≡ old.held terms.trace → mid.inputs Trace ≡ old.inputs Trace → EndsAt Trace old new
    → StopsTraces terms.trace terms.devices before.disk mid new error → StopsArray terms old new error
array_at_trace terms old mid new error before held same ends (inl h) =
    subst (StopsArray terms old new) (sym h.1) (record { before = before; refuses = reads_before held h.2 }, ends)
array_at_trace terms old mid new error before held same ends (inr h) = array_unread terms old new error Trace terms.trace mid
    (at_reading (array_names terms) old mid new Trace before terms.trace refl held same ends error h) h

-- why the script of the rebuild has no calls
pub array_at_rebuild : (terms : ArrayTerms) (old new : DeskView) (error : InputsError) (before : AcceptsDisk old terms.params)
    (traces : List Accepted) → ReadsTraces old terms.trace terms.devices before.disk traces → EndsAt Trace old new
    → StopsRebuild terms.rebuild before.disk.map error → StopsArray terms old new error
array_at_rebuild terms old new (faults.Calls fault) before traces reads ends h =
    (record { before = before; traces = traces; reads_traces = reads; given = h.0; refuses = h.1 }, ends)
array_at_rebuild terms old new faults.NoMemory before traces reads ends h = record { input = Trace; before = before; ends = ends }
array_at_rebuild terms old new _ before traces reads ends h = absurd h

-- no calls are a script
empty_script : (disk : Shape) (traced : ℕ) → IsScript disk traced []
empty_script disk traced =
    record { instants = tt; allowed = tt; few_calls = omega arith; few_blocks = omega arith; few_reads = λ few. omega arith }

-- what comes out of a function came in
came_in : {X Y : Type 0} (f : X → Y) (there : Option X) (y : Y) → option_map f there ≡ Some y → (x : X) × (there ≡ Some x) × (f x ≡ y)
came_in f None y e = absurd cc
came_in f (Some x) y e = (x, refl, cc)

-- each device's trace, with the script that it has, can be replayed
module _ (terms : ArrayTerms) (array : Array) (traces : List DeclaredTrace) (are : array.traces ≡ map accepted traces)
    (latent : AllByRecursion (λ lbn. lbn < length (places array.disk.map)) array.latent)
    (servable : AllByRecursion (λ trace. IsTraceOf (length (places array.disk.map)) trace.requests.items) traces)
    (fit : (device : ℕ) (trace : DeclaredTrace) → slice_get traces device ≡ Some trace → is_rebuilt_from terms.rebuild device ≡ true
    → IsScript array.disk.map (length trace.requests.items) array.script.calls)
    (late : terms.until ≤ 10 ^ 15) where
  script_fits : (device : ℕ) (trace : DeclaredTrace) → slice_get traces device ≡ Some trace
      → IsScript array.disk.map (length trace.requests.items) (device_files terms.rebuild array device (accepted trace)).script.calls
  script_fits device trace at = elim (cases_Bool (is_rebuilt_from terms.rebuild device)) [
    | inl rebuilt ↦ rw rebuilt (fit device trace at rebuilt)
    | inr other ↦ rw other (empty_script array.disk.map (length trace.requests.items))
  ]

  fits : (device : ℕ) (trace : DeclaredTrace) → slice_get traces device ≡ Some trace
      → IsAccepted (device_inputs terms array device (accepted trace))
  fits device trace at = is_accepted (device_files terms.rebuild array device (accepted trace)) (key_of terms.policy) terms.until latent
      (all_get (λ t. IsTraceOf (length (places array.disk.map)) t.requests.items) traces device trace servable at)
      (script_fits device trace at) late

  pub each_fits : (device : ℕ) (trace : Accepted) → slice_get array.traces device ≡ Some trace
      → IsAccepted (device_inputs terms array device trace)
  each_fits device trace at =
      let was = came_in accepted (slice_get traces device) trace (sym (slice_get-map accepted traces device)
      ∙ ap (λ ts. slice_get ts device) (sym are) ∙ at) in
      subst (λ (t : Accepted). IsAccepted (device_inputs terms array device t)) was.2 (fits device was.0 was.1)

-- the trace of a device, by the index of a loop over all traces
pub trace_at : (traces items : List DeclaredTrace) (index device : ℕ) (trace : DeclaredTrace) → items ≡ traces → device ≡ index
    → index < length items → trace ≡ get_or items index trace
    → slice_get (map accepted traces) device ≡ Some (accepted trace)
trace_at traces items index device trace same at inside is =
    subst (λ (ts : List DeclaredTrace). slice_get (map accepted ts) device ≡ Some (accepted trace)) same
    (subst (λ (d : ℕ). slice_get (map accepted items) d ≡ Some (accepted trace)) (sym at)
    (slice_get-map accepted items index ∙ ap (option_map accepted) (slice_get_read items (length items) index trace refl inside is)))

-- a device is handed the calls that its script has
pub handed_calls : (rebuild : Option RebuildTerms) (array : Array) (device : ℕ) (trace : Accepted) (chosen own none : List Call)
    → (is_rebuilt_from rebuild device ≡ true → chosen ≡ own) → (is_rebuilt_from rebuild device ≡ false → chosen ≡ none)
    → own ≡ array.script.calls → none ≡ []
    → chosen ≡ (device_files rebuild array device trace).script.calls
handed_calls rebuild array device trace chosen own none here there is_own is_none = elim (cases_Bool (is_rebuilt_from rebuild device)) [
  | inl rebuilt ↦ rw rebuilt (here rebuilt ∙ is_own)
  | inr other ↦ rw other (there other ∙ is_none)
]

-- and so its inputs
pub handed_inputs : (terms : ArrayTerms) (array : Array) (device : ℕ) (trace : Accepted) (latent : List ℕ) (calls : List Call)
    → latent ≡ array.latent → calls ≡ (device_files terms.rebuild array device trace).script.calls
    → ◌≡◌ {A = Inputs} (record {
      disk = array.disk;
      latent = latent;
      trace = trace.requests;
      passed_over = trace.passed_over;
      calls = calls;
      key = key_of terms.policy;
      until = terms.until;
    })
    (device_inputs terms array device trace)
handed_inputs terms array device trace latent calls same_latent same_calls =
    ap (λ l. record {
      disk = array.disk;
      latent = l;
      trace = trace.requests;
      passed_over = trace.passed_over;
      calls = calls;
      key = key_of terms.policy;
      until = terms.until;
    }) same_latent
    ∙ ap (λ c. record {
      disk = array.disk;
      latent = array.latent;
      trace = trace.requests;
      passed_over = trace.passed_over;
      calls = c;
      key = key_of terms.policy;
      until = terms.until;
    }) same_calls

-- the names of those calls are as many as their tasks
pub handed_names : (rebuild : Option RebuildTerms) (device : ℕ) (chosen own none : DeclaredCalls)
    → (is_rebuilt_from rebuild device ≡ true → chosen ≡ own) → (is_rebuilt_from rebuild device ≡ false → chosen ≡ none)
    → length own.names ≡ length (tasks own.calls.items) → none.names ≡ [] → none.calls.items ≡ []
    → length chosen.names ≡ length (tasks chosen.calls.items)
handed_names rebuild device chosen own none here there named no_names no_calls = elim (cases_Bool (is_rebuilt_from rebuild device)) [
  | inl rebuilt ↦ subst (λ (calls : DeclaredCalls). length calls.names ≡ length (tasks calls.calls.items)) (sym (here rebuilt)) named
  | inr other ↦ subst (λ (calls : DeclaredCalls). length calls.names ≡ length (tasks calls.calls.items)) (sym (there other))
      (ap length no_names ∙ sym (ap (λ calls. length (tasks calls)) no_calls))
]
