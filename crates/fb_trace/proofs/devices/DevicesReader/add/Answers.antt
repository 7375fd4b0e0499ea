use Rattle.std.proofs.Common.{◌≡◌, ◌+◌, ◌<◌, ◌≤◌, List, [], ◌∷◌, ◌++◌, length, set, ap, ◌∙◌, refl, sym, arith, map, subst, true}
use Rattle.std.specs.Prelude.{nat_lt}
use Rattle.std.specs.List.{AllByRecursion}
use Rattle.std.specs.Vec.{with_item}
use Rattle.std.proofs.lemmas.Bool.Decides.{nat_tests}
use Rattle.std.proofs.lemmas.List.{length-map, length_push, map-set, take-map}
use Rattle.fb_units.proofs.Lists.{all_set, all_weaker}
use Rattle.fb_units.specs.declared.types.Request.{Request}
use Rattle.fb_trace.specs.declared.trace.Trace.{Trace}
use Rattle.fb_trace.specs.Line.{request_of}
use Rattle.fb_trace.specs.Progress.{requests_of}
use Rattle.fb_trace.proofs.DevicesRead.{other_read, asked_read, refused_read}
use Rattle.fb_trace.proofs.Lists.{all_take, one_of_all, get_or-mapped, same_at}
use Rattle.fb_trace.proofs.devices.DevicesReader.add.Goals as goal

abbrev own_of : Trace → List Request
own_of trace = trace.requests.items

pub returns-then-device-len-clause-rest : goal.returns-then-device-len-clause-rest
returns-then-device-len-clause-rest c = λ line lines read.
    let old = c.args.self.now in
    other_read old (record old { instant = c.args.entry.arrival; requests = old.requests + 1 }) c.args.number line lines refl c.args.entry
    read refl refl c.requires.counted
    (omega (arith, length-map old.traces.items own_of)) refl refl

pub returns-then-device-len-clause-counted : goal.returns-then-device-len-clause-counted
returns-then-device-len-clause-counted c =
    let old = c.args.self.now in
    all_weaker (λ (own : List Request). length own ≤ old.requests) (λ (own : List Request). length own ≤ old.requests + 1)
    (λ own few. omega arith) (requests_of old) c.requires.counted

pub returns-in_ok-push-in-Ok-clause-rest : goal.returns-in_ok-push-in-Ok-clause-rest
returns-in_ok-push-in-Ok-clause-rest c = λ line lines read.
    let old = c.args.self.now in
    let entry = c.args.entry in
    let own = own_of c.index.result.now in
    let pushed : Trace = record { requests = c.push.new.self; passed_over = c.index_mut.result.now.passed_over } in
    let inside : entry.device < length old.traces.items = omega arith in
    let same =
    same_at entry.device old.traces.items c.index_mut.result.now c.index.result.now inside c.index_mut.ensures.value c.index.ensures in
    let count : length own ≡ c.len-2.result = omega arith in
    asked_read old (record old { instant = entry.arrival; requests = old.requests + 1; traces = with_item old.traces entry.device pushed })
    c.args.number line lines refl entry read refl refl c.requires.counted own
    (omega (arith, length-map old.traces.items own_of))
    (get_or-mapped own_of entry.device old.traces.items c.index.result.now c.index.ensures) c.in-Ok.request
    (ap (λ n. request_of old.sectors (n + 1) entry) count ∙ sym c.in-Ok.ensures)
    (map-set own_of old.traces.items entry.device pushed ∙ ap (set (requests_of old) entry.device) (c.in_ok-push-in-Ok.ensures.items
    ∙ ap (λ (trace : Trace). own_of trace ++ c.in-Ok.request ∷ []) same)) refl

pub returns-in_ok-push-in-Ok-clause-counted : goal.returns-in_ok-push-in-Ok-clause-counted
returns-in_ok-push-in-Ok-clause-counted c =
    let old = c.args.self.now in
    let device = c.args.entry.device in
    let items = old.traces.items in
    let own = own_of c.index.result.now in
    let inside : device < length items = omega arith in
    let few = one_of_all (λ (own : List Request). length own ≤ old.requests) device (requests_of old) own
    (omega (arith, length-map items own_of)) (get_or-mapped own_of device items c.index.result.now c.index.ensures) c.requires.counted in
    let same = same_at device items c.index_mut.result.now c.index.result.now inside c.index_mut.ensures.value c.index.ensures in
    let pushed = c.in_ok-push-in-Ok.ensures.items ∙ ap (λ (trace : Trace). own_of trace ++ c.in-Ok.request ∷ []) same in
    let more = all_weaker (λ (own : List Request). length own ≤ old.requests) (λ (own : List Request). length own ≤ old.requests + 1)
    (λ own few. omega arith) (requests_of old) c.requires.counted in
    subst (AllByRecursion (λ (own : List Request). length own ≤ old.requests + 1))
    (sym (map-set own_of items device (record { requests = c.push.new.self; passed_over = c.index_mut.result.now.passed_over })))
    (all_set (λ (own : List Request). length own ≤ old.requests + 1) device (requests_of old) c.push.new.self.items more
    (omega (arith, ap length pushed, length_push own c.in-Ok.request, few)))

pub returns-in-Err-clause-rest : goal.returns-in-Err-clause-rest
returns-in-Err-clause-rest c = λ line lines read.
    let old = c.args.self.now in
    let entry = c.args.entry in
    let own = own_of c.index.result.now in
    let count : length own ≡ c.len-2.result = omega arith in
    let inside : entry.device < length old.traces.items = omega arith in
    let some : nat_lt entry.device (length old.traces.items) ≡ true = grind (arith, nat_tests) in
    refused_read old c.refuse_from.new.self c.args.number line lines c.refuse_from.ensures.others.0 entry read
    c.refuse_from.ensures.others.1 c.refuse_from.ensures.others.2 c.requires.counted own
    (omega (arith, length-map old.traces.items own_of))
    (get_or-mapped own_of entry.device old.traces.items c.index.result.now c.index.ensures) c.in-Err.reason
    (ap (λ n. request_of old.sectors (n + 1) entry) count ∙ sym c.in-Err.ensures)
    (ap (map own_of) c.refuse_from.ensures.traces ∙ sym (take-map own_of entry.device old.traces.items))
    (c.refuse_from.ensures.fault ∙ rw some refl)

pub returns-in-Err-clause-counted : goal.returns-in-Err-clause-counted
returns-in-Err-clause-counted c =
    let old = c.args.self.now in
    let device = c.args.entry.device in
    let more = all_weaker (λ (own : List Request). length own ≤ old.requests) (λ (own : List Request). length own ≤ old.requests + 1)
    (λ own few. omega arith) (requests_of old) c.requires.counted in
    let left = ap (map own_of) c.refuse_from.ensures.traces ∙ sym (take-map own_of device old.traces.items) in
    subst (λ n. AllByRecursion (λ (own : List Request). length own ≤ n) (requests_of c.refuse_from.new.self))
    (sym c.refuse_from.ensures.others.2)
    (subst (AllByRecursion (λ (own : List Request). length own ≤ old.requests + 1)) (sym left)
    (all_take (λ (own : List Request). length own ≤ old.requests + 1) device (requests_of old) more))
