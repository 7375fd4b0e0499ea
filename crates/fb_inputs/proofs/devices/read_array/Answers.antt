use Rattle.std.proofs.Common.{◌≡◌, ◌<◌, List, ℕ, Some, None, true, ap, arith, length, map, refl, sym, subst}
use Rattle.std.specs.Prelude.{IfSome, slice_get}
use Rattle.std.proofs.lemmas.List.{length-map}
use Rattle.std.proofs.lemmas.Result.{err_from_is_err_and}
use Rattle.fb_desk.specs.declared.desk.Input.TheVariants.{Params, Trace}
use Rattle.fb_script.specs.Allowed.{IsScript}
use Rattle.fb_streams.specs.Called.{array_asks}
use Rattle.fb_trace.specs.Verdict.{accepted}
use Rattle.fb_trace.specs.declared.trace.Trace.{Trace as DeclaredTrace}
use Rattle.fb_words.specs.Verdict.{array_terms}
use Rattle.fb_inputs.specs.Causes.{AcceptsDisk, StopsDisk}
use Rattle.fb_inputs.specs.Devices.{ReadsTraces, StopsTraces, array_of, is_rebuilt_from}
use Rattle.fb_inputs.specs.Ends.{failed_input}
use Rattle.fb_inputs.specs.Read.{ReadsDisk}
use Rattle.fb_inputs.proofs.Account.{and_then, ends_first, ends_then, read_named}
use Rattle.fb_inputs.proofs.DeviceInputs.{array_at_params, array_at_rebuild, array_at_trace, each_fits}
use Rattle.fb_inputs.proofs.Ends.{rebuild_ends}
use Rattle.fb_inputs.proofs.Later.{reads_before}
use Rattle.fb_inputs.proofs.Values.{each_counted}
use Rattle.fb_inputs.proofs.devices.read_array.Goals as goal

pub returns-in_err-params-clause-cause : goal.returns-in_err-params-clause-cause
returns-in_err-params-clause-cause g c =
    let old = g.D.Desk.seen c.args.desk.now in
    let new = g.D.Desk.seen c.read_disk.new.desk in
    let error = c.in_err-params.field-0.0 in
    let gives = err_from_is_err_and c.from_residual.result c.from_residual.ensures.1 in
    rw (gives.1, gives.2) (array_at_params (array_terms c.args.words.now) old new error (ends_first c.in_err-params.ensures.only)
    (subst (λ (name : List ℕ). StopsDisk name old new error) c.as_str.ensures.value c.in_err-params.ensures.stops))

pub returns-in_err-traces-clause-account : goal.returns-in_err-traces-clause-account
returns-in_err-traces-clause-account g c =
    let old = g.D.Desk.seen c.args.desk.now in
    let mid = g.D.Desk.seen c.read_disk.new.desk in
    let new = g.D.Desk.seen c.read_devices.new.desk in
    let asks = array_asks (array_terms c.args.words.now) in
    let params = ap Some (sym c.as_str.ensures.value) in
    let trace = ap Some (sym c.as_str-2.ensures.value) in
    let gives = err_from_is_err_and c.from_residual-in_err-traces.result c.from_residual-in_err-traces.ensures.1 in
    rw (gives.1, gives.2) (and_then
    (read_named asks Params c.as_str.result.now None old mid params c.in_ok-params.ensures.only c.in_ok-params.ensures.opened
    (c.in_ok-params.ensures.calls asks params)) (omega arith)
    (read_named asks Trace c.as_str-2.result.now (failed_input c.in_err-traces.field-0.0) mid new trace c.in_err-traces.ensures.only
    c.in_err-traces.ensures.opened (c.in_err-traces.ensures.calls asks trace)))

pub returns-in_err-traces-clause-cause : goal.returns-in_err-traces-clause-cause
returns-in_err-traces-clause-cause g c =
    let old = g.D.Desk.seen c.args.desk.now in
    let mid = g.D.Desk.seen c.read_disk.new.desk in
    let new = g.D.Desk.seen c.read_devices.new.desk in
    let terms = array_terms c.args.words.now in
    let error = c.in_err-traces.field-0.0 in
    let first = c.in_ok-params.ensures.only in
    let disk = c.in_ok-params.params.disk in
    let latent = c.in_ok-params.params.latent.items in
    let before : AcceptsDisk old terms.params = record {
      disk = disk;
      latent = latent;
      reads_disk = subst (λ (name : List ℕ). ReadsDisk old name disk latent) c.as_str.ensures.value c.in_ok-params.ensures.disk;
    } in
    let gives = err_from_is_err_and c.from_residual-in_err-traces.result c.from_residual-in_err-traces.ensures.1 in
    rw (gives.1, gives.2) (array_at_trace terms old mid new error before (first.held terms.trace) (first.inputs Trace (λ e. cc))
    (ends_then (ends_first first) (omega arith) c.in_err-traces.ensures.only)
    (subst (λ (name : List ℕ). StopsTraces name terms.devices disk mid new error) c.as_str-2.ensures.value c.in_err-traces.ensures.stops))

pub read_rebuild-requires : goal.read_rebuild-requires
read_rebuild-requires g c =
    let terms = array_terms c.args.words.now in
    let traces = c.in_ok-traces.traces.items in
    let counted : length traces ≡ terms.devices =
    omega (arith, each_counted _ terms.devices (map accepted traces) c.in_ok-traces.ensures.traces.spells, length-map traces accepted) in
    record {
      device =
          subst (λ (given : List DeclaredTrace). IfSome terms.rebuild (λ rebuild. rebuild.device < length given)) (sym c.as_slice.ensures.value)
          (subst (λ (n : ℕ). IfSome terms.rebuild (λ rebuild. rebuild.device < n)) (sym counted) c.requires.limits.2);
    }

pub returns-in_err-calls-clause-account : goal.returns-in_err-calls-clause-account
returns-in_err-calls-clause-account g c =
    let old = g.D.Desk.seen c.args.desk.now in
    let mid = g.D.Desk.seen c.read_disk.new.desk in
    let new = g.D.Desk.seen c.read_devices.new.desk in
    let terms = array_terms c.args.words.now in
    let asks = array_asks terms in
    let error = c.in_err-calls.field-0.0 in
    let params = ap Some (sym c.as_str.ensures.value) in
    let trace = ap Some (sym c.as_str-2.ensures.value) in
    let gives = err_from_is_err_and c.from_residual-in_err-calls.result c.from_residual-in_err-calls.ensures.1 in
    rw (gives.1, gives.2) (and_then
    (read_named asks Params c.as_str.result.now None old mid params c.in_ok-params.ensures.only c.in_ok-params.ensures.opened
    (c.in_ok-params.ensures.calls asks params)) (omega arith)
    (read_named asks Trace c.as_str-2.result.now (failed_input error) mid new trace c.in_ok-traces.ensures.only c.in_ok-traces.ensures.opened
    (rebuild_ends asks terms.rebuild c.in_ok-params.params.disk.map error (c.in_ok-traces.ensures.calls asks trace)
    c.in_err-calls.ensures.stops)))

pub returns-in_err-calls-clause-cause : goal.returns-in_err-calls-clause-cause
returns-in_err-calls-clause-cause g c =
    let old = g.D.Desk.seen c.args.desk.now in
    let mid = g.D.Desk.seen c.read_disk.new.desk in
    let new = g.D.Desk.seen c.read_devices.new.desk in
    let terms = array_terms c.args.words.now in
    let first = c.in_ok-params.ensures.only in
    let disk = c.in_ok-params.params.disk in
    let latent = c.in_ok-params.params.latent.items in
    let traces = map accepted c.in_ok-traces.traces.items in
    let before : AcceptsDisk old terms.params = record {
      disk = disk;
      latent = latent;
      reads_disk = subst (λ (name : List ℕ). ReadsDisk old name disk latent) c.as_str.ensures.value c.in_ok-params.ensures.disk;
    } in
    let gives = err_from_is_err_and c.from_residual-in_err-calls.result c.from_residual-in_err-calls.ensures.1 in
    rw (gives.1, gives.2) (array_at_rebuild terms old new c.in_err-calls.field-0.0 before traces
    (reads_before (first.held terms.trace) (subst (λ (name : List ℕ). ReadsTraces mid name terms.devices disk traces)
    c.as_str-2.ensures.value c.in_ok-traces.ensures.traces))
    (ends_then (ends_first first) (omega arith) c.in_ok-traces.ensures.only) c.in_err-calls.ensures.stops)

pub returns-clause-account : goal.returns-clause-account
returns-clause-account g c =
    let old = g.D.Desk.seen c.args.desk.now in
    let mid = g.D.Desk.seen c.read_disk.new.desk in
    let new = g.D.Desk.seen c.read_devices.new.desk in
    let asks = array_asks (array_terms c.args.words.now) in
    let params = ap Some (sym c.as_str.ensures.value) in
    let trace = ap Some (sym c.as_str-2.ensures.value) in
    and_then
    (read_named asks Params c.as_str.result.now None old mid params c.in_ok-params.ensures.only c.in_ok-params.ensures.opened
    (c.in_ok-params.ensures.calls asks params)) (omega arith)
    (read_named asks Trace c.as_str-2.result.now None mid new trace c.in_ok-traces.ensures.only c.in_ok-traces.ensures.opened
    (c.in_ok-traces.ensures.calls asks trace))

pub returns-clause-fit : goal.returns-clause-fit
returns-clause-fit g c =
    let terms = array_terms c.args.words.now in
    let calls = c.in_ok-calls.calls in
    each_fits terms (array_of (record { params = c.in_ok-params.params; traces = c.in_ok-traces.traces; calls = calls }))
    c.in_ok-traces.traces.items refl c.in_ok-params.ensures.latent c.in_ok-traces.ensures.servable
    (subst (λ (given : List DeclaredTrace). (device : ℕ) (trace : DeclaredTrace) → slice_get given device ≡ Some trace
    → is_rebuilt_from terms.rebuild device ≡ true → IsScript c.in_ok-params.params.disk.map (length trace.requests.items) calls.calls.items)
    c.as_slice.ensures.value c.in_ok-calls.ensures.fit) c.requires.limits.3
