use Rattle.fb_top.proofs.Words.{◌≡◌, ◌∙◌, ℕ, [], ◌∷◌, ap, arith, length, refl, sym, subst, true, AllByRecursion, Calls, IsAccepted, IsFull}
use Rattle.fb_top.proofs.Words.{Inputs, array_terms, CanTellFore, IsRunOfDevice, array_of, is_rebuilt_from, CanBeTold}
use Rattle.std.proofs.lemmas.List.{length-append}
use Rattle.fb_units.proofs.Lists.{all_push}
use Rattle.fb_trace.specs.Verdict.{accepted}
use Rattle.fb_inputs.proofs.DeviceInputs.{handed_calls, handed_inputs, handed_names, trace_at}
use Rattle.fb_texts.proofs.Each.{each_more}
use Rattle.fb_top.proofs.array.replay_devices.Goals as goal

pub replay_by-requires : goal.replay_by-requires
replay_by-requires c =
    let terms = array_terms c.args.words.now in
    let files = c.args.files.now in
    let array = array_of files in
    let device = c.len.result in
    let trace = c.trace-item.result in
    let calls = c.calls_of.result.now in
    let same = handed_inputs terms array device (accepted trace) c.as_slice.result.now calls.calls.items c.as_slice.ensures.value
    (handed_calls terms.rebuild array device
    (accepted trace) calls.calls.items files.calls.calls.items c.no_calls-no_calls.result.calls.items
    (λ is. ap (λ (k : Calls). k.calls.items) (c.calls_of.ensures.rebuilt is))
    (λ is. ap (λ (k : Calls). k.calls.items) (c.calls_of.ensures.other is)) refl c.no_calls-no_calls.ensures.calls) in
    record {
      fit = subst IsAccepted (sym same) (c.requires.fit device (accepted trace)
          (trace_at files.traces.items c.deref-trace-items.result.now c.loop-trace.trace-index device trace
          c.deref-trace-items.ensures.value (c.len.ensures.value ∙ c.loop-trace.invariant.count) c.loop-trace-test.true c.trace-item.is));
      names = handed_names terms.rebuild device calls files.calls c.no_calls-no_calls.result c.calls_of.ensures.rebuilt
          c.calls_of.ensures.other c.requires.names c.no_calls-no_calls.ensures.names c.no_calls-no_calls.ensures.calls;
    }

pub loop-trace-preserved : goal.loop-trace-preserved
loop-trace-preserved c =
    let terms = array_terms c.args.words.now in
    let files = c.args.files.now in
    let array = array_of files in
    let loop = c.loop-trace in
    let device = c.len.result in
    let trace = c.trace-item.result in
    let calls = c.calls_of.result.now in
    let run = c.in_ok-replay_by.field-0 in
    let told = c.in_ok-replay_by.ensures.told in
    let more = c.in_ok-push.ensures.ok in
    let at = trace_at files.traces.items c.deref-trace-items.result.now loop.trace-index device trace c.deref-trace-items.ensures.value
    (c.len.ensures.value ∙ loop.invariant.count) c.loop-trace-test.true c.trace-item.is in
    let same = handed_inputs terms array device (accepted trace) c.as_slice.result.now calls.calls.items c.as_slice.ensures.value
    (handed_calls terms.rebuild array device
    (accepted trace) calls.calls.items files.calls.calls.items c.no_calls-no_calls.result.calls.items
    (λ is. ap (λ (k : Calls). k.calls.items) (c.calls_of.ensures.rebuilt is))
    (λ is. ap (λ (k : Calls). k.calls.items) (c.calls_of.ensures.other is)) refl c.no_calls-no_calls.ensures.calls) in
    let mine : IsRunOfDevice terms array device run = record {
      trace = accepted trace;
      here = at;
      accepted = c.requires.fit device (accepted trace) at;
      full = subst (λ (inputs : Inputs). IsFull inputs run) same c.in_ok-replay_by.ensures.full;
    } in
    record {
      count = omega (arith, ap length more, length-append loop.runs (run ∷ []), loop.invariant.count);
      full = each_more (IsRunOfDevice terms array) loop.runs c.push.new.self run more loop.invariant.full
          (subst (λ (d : ℕ). IsRunOfDevice terms array d run) c.len.ensures.value mine);
      told = subst (AllByRecursion CanTellFore) (sym more) (all_push CanTellFore loop.runs run loop.invariant.told told.few);
      back_told = each_more (λ d r. is_rebuilt_from terms.rebuild d ≡ true → CanBeTold files.calls.names r) loop.runs c.push.new.self run
          more loop.invariant.back_told
          (λ rebuilt. subst (λ (k : Calls). CanBeTold k.names run)
          (c.calls_of.ensures.rebuilt (subst (λ (d : ℕ). is_rebuilt_from terms.rebuild d ≡ true) (sym c.len.ensures.value) rebuilt)) told);
    }
