use Rattle.std.proofs.Common.{ℕ, ◌∙◌, None, ap, arith, length, subst}
use Rattle.std.proofs.lemmas.Result.{err_from_is_err_and}
use Rattle.fb_trace.specs.Verdict.{accepted}
use Rattle.fb_script.specs.Allowed.{IsScript}
use Rattle.fb_desk.specs.declared.desk.Input.TheVariants.{Params, Trace, Calls}
use Rattle.fb_inputs.specs.Causes.{AcceptsTrace, StopsScript}
use Rattle.fb_inputs.specs.Ends.{failed_input}
use Rattle.fb_inputs.specs.Read.{files_of}
use Rattle.fb_inputs.specs.Reading.{file_names}
use Rattle.fb_inputs.proofs.Account.{and_then, ends_first, ends_then, read_named, read_one, up_to}
use Rattle.fb_inputs.proofs.Later.{at_params, at_script, at_trace, is_accepted, on, reads_before, with_files}
use Rattle.fb_inputs.proofs.reading.read_files.Goals as goal

pub returns-in_err-params-clause-cause : goal.returns-in_err-params-clause-cause
returns-in_err-params-clause-cause g c =
    let words = file_names c.args.named.now in
    let old = g.D.Desk.seen c.args.desk.now in
    let new = g.D.Desk.seen c.read_disk.new.desk in
    let gives = err_from_is_err_and c.from_residual.result c.from_residual.ensures.1 in
    rw (gives.1, gives.2) (λ names same. with_files names words old new c.in_err-params.field-0.0 same
    (at_params (on names words) old new c.in_err-params.field-0.0 (ends_first c.in_err-params.ensures.only) c.in_err-params.ensures.stops))

pub returns-in_err-trace-clause-account : goal.returns-in_err-trace-clause-account
returns-in_err-trace-clause-account g c = λ asked asks.
    let old = g.D.Desk.seen c.args.desk.now in
    let mid = g.D.Desk.seen c.read_disk.new.desk in
    let new = g.D.Desk.seen c.read_requests.new.desk in
    let words = file_names c.args.named.now in
    let gives = err_from_is_err_and c.from_residual-in_err-trace.result c.from_residual-in_err-trace.ensures.1 in
    rw (gives.1, gives.2) (up_to Calls (and_then
    (read_named asked Params words.params None old mid asks.params c.in_ok-params.ensures.only c.in_ok-params.ensures.opened
    (c.in_ok-params.ensures.calls asked asks.params)) (omega arith)
    (read_named asked Trace words.trace (failed_input c.in_err-trace.field-0.0) mid new asks.trace c.in_err-trace.ensures.only
    c.in_err-trace.ensures.opened (c.in_err-trace.ensures.calls asked asks.trace))) (omega arith))

pub returns-in_err-trace-clause-cause : goal.returns-in_err-trace-clause-cause
returns-in_err-trace-clause-cause g c =
    let old = g.D.Desk.seen c.args.desk.now in
    let mid = g.D.Desk.seen c.read_disk.new.desk in
    let new = g.D.Desk.seen c.read_requests.new.desk in
    let words = file_names c.args.named.now in
    let error = c.in_err-trace.field-0.0 in
    let first = c.in_ok-params.ensures.only in
    let gives = err_from_is_err_and c.from_residual-in_err-trace.result c.from_residual-in_err-trace.ensures.1 in
    rw (gives.1, gives.2) (λ names same. with_files names words old new error same
    (at_trace (on names words) old mid new first.held error
    (record { disk = c.in_ok-params.params.disk; latent = c.in_ok-params.params.latent.items; reads_disk = c.in_ok-params.ensures.disk })
    (first.inputs Trace (λ e. cc)) (ends_then (ends_first first) (omega arith) c.in_err-trace.ensures.only)
    c.in_err-trace.ensures.stops))

pub returns-in_err-calls-clause-account : goal.returns-in_err-calls-clause-account
returns-in_err-calls-clause-account g c = λ asked asks.
    let old = g.D.Desk.seen c.args.desk.now in
    let mid = g.D.Desk.seen c.read_disk.new.desk in
    let late = g.D.Desk.seen c.read_requests.new.desk in
    let new = g.D.Desk.seen c.read_script.new.desk in
    let words = file_names c.args.named.now in
    let gives = err_from_is_err_and c.from_residual-in_err-calls.result c.from_residual-in_err-calls.ensures.1 in
    rw (gives.1, gives.2) (and_then (and_then
    (read_named asked Params words.params None old mid asks.params c.in_ok-params.ensures.only c.in_ok-params.ensures.opened
    (c.in_ok-params.ensures.calls asked asks.params)) (omega arith)
    (read_named asked Trace words.trace None mid late asks.trace c.in_ok-trace.ensures.only c.in_ok-trace.ensures.opened
    (c.in_ok-trace.ensures.calls asked asks.trace))) (omega arith)
    (read_one asked Calls words.calls (failed_input c.in_err-calls.field-0.0) late new asks.calls c.in_err-calls.ensures.only
    c.in_err-calls.ensures.opened c.in_err-calls.ensures.unnamed (c.in_err-calls.ensures.calls asked asks.calls)))

pub returns-in_err-calls-clause-cause : goal.returns-in_err-calls-clause-cause
returns-in_err-calls-clause-cause g c =
    let old = g.D.Desk.seen c.args.desk.now in
    let mid = g.D.Desk.seen c.read_disk.new.desk in
    let late = g.D.Desk.seen c.read_requests.new.desk in
    let new = g.D.Desk.seen c.read_script.new.desk in
    let words = file_names c.args.named.now in
    let error = c.in_err-calls.field-0.0 in
    let first = c.in_ok-params.ensures.only in
    let second = c.in_ok-trace.ensures.only in
    let disk = c.in_ok-params.params.disk in
    let before : AcceptsTrace old words = record {
      params = record { disk = disk; latent = c.in_ok-params.params.latent.items; reads_disk = c.in_ok-params.ensures.disk };
      trace = accepted c.in_ok-trace.trace;
      reads_trace = reads_before (first.held words.trace) c.in_ok-trace.ensures.trace;
    } in
    let gives = err_from_is_err_and c.from_residual-in_err-calls.result c.from_residual-in_err-calls.ensures.1 in
    rw (gives.1, gives.2) (λ names same. with_files names words old new error same
    (at_script (on names words) old late new (λ name. second.held name ∙ first.held name) error before
    (second.inputs Calls (λ e. cc) ∙ first.inputs Calls (λ e. cc))
    (ends_then (ends_then (ends_first first) (omega arith) second) (omega arith) c.in_err-calls.ensures.only)
    (subst (λ (traced : ℕ). StopsScript words.calls disk traced late new error)
    (ap length c.as_slice.ensures.value) c.in_err-calls.ensures.stops)))

pub returns-clause-account : goal.returns-clause-account
returns-clause-account g c = λ asked asks.
    let old = g.D.Desk.seen c.args.desk.now in
    let mid = g.D.Desk.seen c.read_disk.new.desk in
    let late = g.D.Desk.seen c.read_requests.new.desk in
    let new = g.D.Desk.seen c.read_script.new.desk in
    let words = file_names c.args.named.now in
    and_then (and_then
    (read_named asked Params words.params None old mid asks.params c.in_ok-params.ensures.only c.in_ok-params.ensures.opened
    (c.in_ok-params.ensures.calls asked asks.params)) (omega arith)
    (read_named asked Trace words.trace None mid late asks.trace c.in_ok-trace.ensures.only c.in_ok-trace.ensures.opened
    (c.in_ok-trace.ensures.calls asked asks.trace))) (omega arith)
    (read_one asked Calls words.calls None late new asks.calls c.in_ok-calls.ensures.only c.in_ok-calls.ensures.opened
    c.in_ok-calls.ensures.unnamed (c.in_ok-calls.ensures.calls asked asks.calls))

pub returns-clause-fit : goal.returns-clause-fit
returns-clause-fit g c = λ key until late.
    is_accepted (files_of (record { params = c.in_ok-params.params; trace = c.in_ok-trace.trace; calls = c.in_ok-calls.calls })) key until
    c.in_ok-params.ensures.latent c.in_ok-trace.ensures.servable
    (subst (λ (traced : ℕ). IsScript c.in_ok-params.params.disk.map traced c.in_ok-calls.calls.calls.items)
    (ap length c.as_slice.ensures.value) c.in_ok-calls.ensures.fit) late
