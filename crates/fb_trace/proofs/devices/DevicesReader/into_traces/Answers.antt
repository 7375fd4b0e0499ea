use Rattle.std.proofs.Common.{◌≡◌, ◌+◌, ◌-◌, ◌<◌, ◌≤◌, List, length, get_or, ap, ◌∙◌, sym, arith, add-one}
use Rattle.std.specs.Vec.{vec_len}
use Rattle.std.proofs.lemmas.List.{length-map, drop-set-lt}
use Rattle.fb_units.specs.declared.types.Request.{Request}
use Rattle.fb_trace.specs.declared.trace.Trace.{Trace}
use Rattle.fb_trace.specs.Progress.{requests_of, own_trace}
use Rattle.fb_trace.specs.Reading.{Accepted}
use Rattle.fb_trace.specs.Verdict.{accepted}
use Rattle.fb_trace.proofs.Lists.{one_of_all, get_or-mapped, alike_from, written_next}
use Rattle.fb_trace.proofs.devices.DevicesReader.into_traces.Goals as goal

abbrev own_of : Trace → List Request
own_of trace = trace.requests.items

pub overflow_sub-trace : goal.overflow_sub-trace
overflow_sub-trace c =
    let l = c.loop-trace in
    let own = own_of c.trace-item.result in
    let here = alike_from l.trace-index l.trace-items c.args.self.traces.items c.trace-item.result l.invariant.left (omega arith) in
    let few = one_of_all (λ (own : List Request). length own ≤ c.args.self.requests) l.trace-index (requests_of c.args.self) own
    (omega (arith, length-map c.args.self.traces.items own_of, here.2))
    (get_or-mapped own_of l.trace-index c.args.self.traces.items c.trace-item.result (c.trace-item.is ∙ here.0)) c.requires in
    let count = c.len.ensures ∙ ap (λ (trace : Trace). vec_len trace.requests) (sym c.trace-item.is) in
    omega (arith, few, count, c.trace-item.result.requests.ok.0)

pub loop-trace-preserved : goal.loop-trace-preserved
loop-trace-preserved c =
    let l = c.loop-trace in
    let items = l.trace-items in
    let before = c.args.self.traces.items in
    let item = c.trace-item.result in
    let inside : l.trace-index < length items = omega arith in
    let here = alike_from l.trace-index items before item l.invariant.left inside in
    let written : Trace = record {
      requests = (get_or items l.trace-index item).requests;
      passed_over = c.args.self.requests - c.len.result;
    } in
    let count : c.len.result ≡ length (own_of item) =
    omega (arith, c.len.ensures ∙ ap (λ (trace : Trace). vec_len trace.requests) (sym c.trace-item.is), item.requests.ok.0) in
    let same : accepted written ≡ own_trace c.args.self (own_of item) =
    ap (λ (trace : Trace). let t : Accepted = record { requests = own_of trace; passed_over = c.args.self.requests - c.len.result } in t)
    (sym c.trace-item.is)
    ∙ ap (λ n. let t : Accepted = record { requests = own_of item; passed_over = c.args.self.requests - n } in t) count in
    record {
      done = rw add-one (written_next accepted (own_trace c.args.self) l.trace-index items (requests_of c.args.self) written
          (own_of item) inside (omega (arith, length-map before own_of, here.2))
          (get_or-mapped own_of l.trace-index before item (c.trace-item.is ∙ here.0)) same l.invariant.done);
      left = drop-set-lt (l.trace-index + 1) items l.trace-index written (omega arith) ∙ here.1;
    }
