-- Reading a text for several devices goes on after its first line.
use Rattle.std.proofs.Common.{◌≡◌, ◌≢◌, ℕ, zero, suc, ◌+◌, ◌-◌, ◌<◌, ◌≤◌, List, [], ◌∷◌, ◌++◌, length, get_or, take, set, map, true, false}
use Rattle.std.proofs.Common.{refl, sym, ap, ◌∙◌, subst, arith, Option, Some, None, Result, Ok, Err, Vec, Global}
use Rattle.std.specs.Prelude.{◌==◌, nat_lt, if◌then◌else◌, replicate, slice_get, IfOk}
use Rattle.std.specs.Option.{option_map}
use Rattle.std.specs.List.{AllByRecursion, range_with_len}
use Rattle.std.proofs.lemmas.Bool.Decides.{nat_tests}
use Rattle.std.proofs.lemmas.List.{length_push, length-map}
use Rattle.std.proofs.lemmas.Option.{slice_get-map}
use Rattle.fb_units.proofs.Each.{all_unmapped}
use Rattle.fb_units.proofs.Lists.{same_Ok}
use Rattle.fb_units.specs.Judging.{◌>>=◌}
use Rattle.fb_units.specs.Lines.{fields_of, lines_of}
use Rattle.fb_units.specs.declared.types.Request.{Request}
use Rattle.fb_units.proofs.Judged.{both_ok}
use Rattle.fb_units.specs.declared.read_error.ReadError.{ReadError}
use Rattle.fb_trace.specs.declared.devices.DevicesReader.{DevicesReader}
use Rattle.fb_trace.specs.declared.entry.Entry.{Entry}
use Rattle.fb_trace.specs.declared.trace.Trace.{Trace}
use Rattle.fb_trace.specs.declared.trace.TraceFault.{TraceFault}
use Rattle.fb_trace.specs.declared.trace.TraceReason.{TraceReason}
use Rattle.fb_trace.specs.Devices.{all_of, traces_of}
use Rattle.fb_trace.specs.Line.{entry_after, added_by, of_device, line_of, request_of}
use Rattle.fb_trace.specs.Progress.{requests_of, AreCounted, own_trace, rest_for, by_device, unless_refused, rest_of_text}
use Rattle.fb_trace.specs.Reading.{Accepted, fault_at, lines_from, trace_of}
use Rattle.fb_trace.specs.Servable.{IsTraceOf}
use Rattle.fb_trace.specs.Verdict.{Answers, AreTracesOf, accepted}
use Rattle.fb_trace.proofs.ByDevice.{same_below, same_after, refused_at, each_device, all_accepted}
use Rattle.fb_trace.proofs.Lists.{one_of_all, all_replicate}
use Rattle.fb_trace.proofs.Keeping.{asked_arrival, fit_trace}

-- nothing is passed over by a device that hasn't more requests than all have
one_more : (all own : ℕ) → own ≤ all → all - own + 1 ≡ all + 1 - own
one_more all own few = omega arith

module _ (old new : DevicesReader) (number : ℕ) (line : List ℕ) (lines : List (List ℕ)) (sectors : new.sectors ≡ old.sectors) where
  -- a blank line changes nothing
  blank_for : (device : ℕ) (own : List Request) → entry_after old.instant (fields_of line) ≡ Ok None
      → rest_for old number (line ∷ lines) device own ≡ rest_for old (number + 1) lines device own
  unfolding lines_from line_of added_by
  blank_for device own read = rw read refl

  -- a line that is refused for each device is the fault of each
  fault_for : (device : ℕ) (own : List Request) (reason : TraceReason) → entry_after old.instant (fields_of line) ≡ Err reason
      → rest_for old number (line ∷ lines) device own ≡ Err (fault_at number reason)
  unfolding lines_from line_of
  fault_for device own reason read = rw read refl

  module _ (entry : Entry) (read : entry_after old.instant (fields_of line) ≡ Ok (Some entry)) (instant : new.instant ≡ entry.arrival)
      (requests : new.requests ≡ old.requests + 1) where
    -- the other devices pass over a request
    other_for : (device : ℕ) (own : List Request) → device ≢ entry.device → length own ≤ old.requests
        → rest_for old number (line ∷ lines) device own ≡ rest_for new (number + 1) lines device own
    unfolding lines_from line_of added_by of_device
    other_for device own other few =
        let differ : (entry.device == device) ≡ false = grind (arith, nat_tests) in
        rw (read, differ, sectors, instant, requests) (ap (λ n. lines_from device old.sectors (number + 1) (record {
          instant = entry.arrival;
          trace = record { requests = own; passed_over = n };
        }) lines) (one_more old.requests (length own) few))

    -- its own device has it as its next one
    asked_for : (own : List Request) (request : Request) → request_of old.sectors (length own + 1) entry ≡ Ok request
        → length own ≤ old.requests
        → rest_for old number (line ∷ lines) entry.device own ≡ rest_for new (number + 1) lines entry.device (own ++ request ∷ [])
    unfolding lines_from line_of added_by of_device
    asked_for own request asked few =
        let here : (entry.device == entry.device) ≡ true = grind (arith, nat_tests) in
        let count : old.requests - length own ≡ old.requests + 1 - length (own ++ request ∷ []) = omega (arith, length_push own request) in
        let after = λ (arrival passed : ℕ). lines_from entry.device old.sectors (number + 1) (record {
          instant = arrival;
          trace = record { requests = own ++ request ∷ []; passed_over = passed };
        }) lines in
        rw (read, here, asked, sectors, instant, requests)
        (ap (λ arrival. after arrival (old.requests - length own)) (asked_arrival old.sectors (length own + 1) entry request asked)
        ∙ ap (after entry.arrival) count)

    -- or is refused
    refused_for : (own : List Request) (reason : TraceReason) → request_of old.sectors (length own + 1) entry ≡ Err reason
        → rest_for old number (line ∷ lines) entry.device own ≡ Err (fault_at number reason)
    unfolding lines_from line_of added_by of_device
    refused_for own reason refused =
        let here : (entry.device == entry.device) ≡ true = grind (arith, nat_tests) in
        rw (read, here, refused) refl

-- a refusal comes before what else would be refused
refused_before : (some : Result (List Accepted) TraceFault) (fault : TraceFault) (before : Option TraceFault)
    → ((some >>= λ traces. Err fault) >>= unless_refused before) ≡ (some >>= unless_refused (Some fault))
refused_before (Ok traces) fault before = refl
refused_before (Err e) fault before = refl

-- if the first device is refused, so are all
first_refused : (f : ℕ → List Request → Result Accepted TraceFault) (owns : List (List Request)) (fault : TraceFault)
    (before : Option TraceFault) → ((own : List Request) → f 0 own ≡ Err fault)
    → (all_of (by_device f 0 owns) >>= unless_refused before) ≡ unless_refused (if nat_lt 0 (length owns) then Some fault else before) []
first_refused f [] fault before refused = refl
first_refused f (own ∷ owns) fault before refused =
    let some : nat_lt 0 (length (own ∷ owns)) ≡ true = grind (arith, nat_tests) in
    rw (refused own, some) refl

module _ (old new : DevicesReader) (number : ℕ) (line : List ℕ) (lines : List (List ℕ)) where
  -- the devices that are still read after a line, and the fault of the next one
  ends : (owns : List (List Request)) (fault : Option TraceFault) → requests_of new ≡ owns → new.fault ≡ fault
      → (all_of (by_device (rest_for new (number + 1) lines) 0 owns) >>= unless_refused fault) ≡ rest_of_text new (number + 1) lines
  ends owns fault same_owns same_fault =
      ap (λ xs. all_of (by_device (rest_for new (number + 1) lines) 0 xs) >>= unless_refused fault) (sym same_owns)
      ∙ ap (λ f. all_of (by_device (rest_for new (number + 1) lines) 0 (requests_of new)) >>= unless_refused f) (sym same_fault)

  -- after a blank line
  pub blank_read : AreCounted old → entry_after old.instant (fields_of line) ≡ Ok None
      → rest_of_text old number (line ∷ lines) ≡ rest_of_text old (number + 1) lines
  blank_read counted read =
      ap (λ rs. all_of rs >>= unless_refused old.fault)
      (same_below (rest_for old number (line ∷ lines)) (rest_for old (number + 1) lines) (length (requests_of old))
      (λ own. length own ≤ old.requests)
      (λ device own other few. blank_for old old number line lines refl device own read) 0 (requests_of old) (omega arith) counted)

  -- after a line that is refused for each device
  pub fault_read : (reason : TraceReason) → entry_after old.instant (fields_of line) ≡ Err reason → requests_of new ≡ []
      → new.fault ≡ (if nat_lt 0 (length (requests_of old)) then Some (fault_at number reason) else old.fault)
      → rest_of_text old number (line ∷ lines) ≡ rest_of_text new (number + 1) lines
  fault_read reason read owns fault =
      first_refused (rest_for old number (line ∷ lines)) (requests_of old) (fault_at number reason) old.fault
      (λ own. fault_for old old number line lines refl 0 own reason read)
      ∙ ends [] (if nat_lt 0 (length (requests_of old)) then Some (fault_at number reason) else old.fault) owns fault

  module _ (sectors : new.sectors ≡ old.sectors) (entry : Entry) (read : entry_after old.instant (fields_of line) ≡ Ok (Some entry))
      (instant : new.instant ≡ entry.arrival)
      (requests : new.requests ≡ old.requests + 1) (counted : AreCounted old) where
    -- after a request of a device that isn't read any more, or never was
    pub other_read : length (requests_of old) ≤ entry.device → requests_of new ≡ requests_of old → new.fault ≡ old.fault
        → rest_of_text old number (line ∷ lines) ≡ rest_of_text new (number + 1) lines
    other_read beyond owns fault =
        ap (λ rs. all_of rs >>= unless_refused old.fault)
        (same_below (rest_for old number (line ∷ lines)) (rest_for new (number + 1) lines) entry.device (λ own. length own ≤ old.requests)
        (other_for old new number line lines sectors entry read instant requests) 0 (requests_of old) (omega arith) counted)
        ∙ ends (requests_of old) old.fault owns fault

    module _ (own : List Request) (inside : entry.device < length (requests_of old))
        (is : own ≡ get_or (requests_of old) entry.device own) where
      -- after a request of a device that is still read
      pub asked_read : (request : Request) → request_of old.sectors (length own + 1) entry ≡ Ok request
          → requests_of new ≡ set (requests_of old) entry.device (own ++ request ∷ []) → new.fault ≡ old.fault
          → rest_of_text old number (line ∷ lines) ≡ rest_of_text new (number + 1) lines
      asked_read request asked owns fault =
          let few = one_of_all (λ (own : List Request). length own ≤ old.requests) entry.device (requests_of old) own inside is counted in
          ap (λ rs. all_of rs >>= unless_refused old.fault)
          (same_after (rest_for old number (line ∷ lines)) (rest_for new (number + 1) lines) entry.device (λ own. length own ≤ old.requests)
          (other_for old new number line lines sectors entry read instant requests) 0 entry.device (requests_of old) own
          (own ++ request ∷ []) (omega arith) inside is
          (asked_for old new number line lines sectors entry read instant requests own request asked few) counted)
          ∙ ends (set (requests_of old) entry.device (own ++ request ∷ [])) old.fault owns fault

      -- after one that is refused
      pub refused_read : (reason : TraceReason) → request_of old.sectors (length own + 1) entry ≡ Err reason
          → requests_of new ≡ take entry.device (requests_of old) → new.fault ≡ Some (fault_at number reason)
          → rest_of_text old number (line ∷ lines) ≡ rest_of_text new (number + 1) lines
      refused_read reason refused owns fault =
          ap (λ r. r >>= unless_refused old.fault)
          (refused_at (rest_for old number (line ∷ lines)) (rest_for new (number + 1) lines) entry.device (λ own. length own ≤ old.requests)
          (other_for old new number line lines sectors entry read instant requests) 0 entry.device (requests_of old) own
          (fault_at number reason) (omega arith) inside is
          (refused_for old new number line lines sectors entry read instant requests own reason refused) counted)
          ∙ refused_before (all_of (by_device (rest_for new (number + 1) lines) 0 (take entry.device (requests_of old))))
          (fault_at number reason) old.fault
          ∙ ends (take entry.device (requests_of old)) (Some (fault_at number reason)) owns fault

none_refused : (r : Result (List Accepted) TraceFault) → (r >>= unless_refused None) ≡ r
none_refused (Ok traces) = refl
none_refused (Err e) = refl

-- before the first line
pub nothing_read : (reader : DevicesReader) (devices sectors : ℕ) (text : List ℕ) → requests_of reader ≡ replicate devices []
    → reader.sectors ≡ sectors → reader.instant ≡ 0 → reader.requests ≡ 0
    → reader.fault ≡ None → rest_of_text reader 1 (lines_of text) ≡ traces_of devices sectors text
nothing_read reader devices sectors text none same instant requests fault =
    ap (λ f. all_of (by_device (rest_for reader 1 (lines_of text)) 0 (requests_of reader)) >>= unless_refused f) fault
    ∙ none_refused (all_of (by_device (rest_for reader 1 (lines_of text)) 0 (requests_of reader)))
    ∙ ap (λ owns. all_of (by_device (rest_for reader 1 (lines_of text)) 0 owns)) none
    ∙ ap all_of (each_device (rest_for reader 1 (lines_of text)) [] 0 devices)
    ∙ rw (same, instant, requests) refl

-- behind the last line
pub all_read : (reader : DevicesReader) (number : ℕ) (lines : List (List ℕ)) → lines ≡ []
    → rest_of_text reader number lines ≡ unless_refused reader.fault (map (own_trace reader) (requests_of reader))
unfolding lines_from
all_read reader number lines none =
    ap (rest_of_text reader number) none
    ∙ ap (λ r. r >>= unless_refused reader.fault)
    (all_accepted (rest_for reader number []) (own_trace reader) (λ device own. refl) 0 (requests_of reader))

-- at first no device has a request
pub all_counted : (reader : DevicesReader) (devices : ℕ) → requests_of reader ≡ replicate devices [] → AreCounted reader
all_counted reader devices none =
    subst (AllByRecursion (λ (own : List Request). length own ≤ reader.requests)) (sym none)
    (all_replicate (λ (own : List Request). length own ≤ reader.requests) devices [] (omega arith))

-- what is accepted of all is one for each
values_count : {A E : Type 0} (f : ℕ → Result A E) (device n : ℕ) (values : List A) → all_of (map f (range_with_len device n)) ≡ Ok values
    → length values ≡ n
values_count f device zero values e = ap length (sym (same_Ok [] values e))
values_count f device (suc n) values e =
    let first = both_ok (f device) _ values e in
    let others = both_ok (all_of (map f (range_with_len (device + 1) n))) _ values first.2 in
    let rest = values_count f (device + 1) n others.0 others.1 in
    ap length (sym (same_Ok (first.0 ∷ others.0) values others.2)) ∙ ap suc rest

-- and it is what is accepted of that one
each_value : {A E : Type 0} (f : ℕ → Result A E) (device n : ℕ) (values : List A) (k : ℕ) (value : A)
    → all_of (map f (range_with_len device n)) ≡ Ok values → slice_get values k ≡ Some value
    → f (device + k) ≡ Ok value
each_value f device n [] k value e at = cc
each_value f device zero (v ∷ values) k value e at = cc
each_value f device (suc n) (v ∷ values) zero value e at =
    let first = both_ok (f device) _ (v ∷ values) e in
    let others = both_ok (all_of (map f (range_with_len (device + 1) n))) _ (v ∷ values) first.2 in
    let same : first.0 ≡ value = cc in
    let here : device + 0 ≡ device = omega arith in
    ap f here ∙ first.1 ∙ ap Ok same
each_value f device (suc n) (v ∷ values) (suc k) value e at =
    let first = both_ok (f device) _ (v ∷ values) e in
    let others = both_ok (all_of (map f (range_with_len (device + 1) n))) _ (v ∷ values) first.2 in
    let same : others.0 ≡ values = cc in
    let there : device + suc k ≡ device + 1 + k = omega arith in
    ap f there ∙ each_value f (device + 1) n values k value (others.1 ∙ ap Ok same) at

-- what holds of whatever is accepted of one holds of each
each_holds : {A E : Type 0} (P : A → Type 0) (f : ℕ → Result A E) → ((device : ℕ) (value : A) → f device ≡ Ok value → P value)
    → (device n : ℕ) (values : List A)
    → all_of (map f (range_with_len device n)) ≡ Ok values → AllByRecursion P values
each_holds P f holds device zero values e = subst (AllByRecursion P) (same_Ok [] values e) tt
each_holds P f holds device (suc n) values e =
    let first = both_ok (f device) _ values e in
    let others = both_ok (all_of (map f (range_with_len (device + 1) n))) _ values first.2 in
    subst (AllByRecursion P) (same_Ok (first.0 ∷ others.0) values others.2)
    (holds device first.0 first.1, each_holds P f holds (device + 1) n others.0 others.1)

-- one element of the values, where it is that of an element of the traces
value_at : (traces : List Trace) (k : ℕ) (trace : Trace) → slice_get traces k ≡ Some trace
    → slice_get (map accepted traces) k ≡ Some (accepted trace)
value_at traces k trace at = slice_get-map accepted traces k ∙ ap (option_map accepted) at

-- where all traces were read
pub each_trace : (devices sectors : ℕ) (text : List ℕ) (result : Result (Vec Trace Global) (ReadError TraceFault))
    → Answers (λ traces. map accepted traces.items) result (traces_of devices sectors text)
    → IfOk result (λ traces. AreTracesOf devices sectors text traces.items)
each_trace devices sectors text (Ok traces) e = record {
  count = sym (length-map traces.items accepted)
      ∙ values_count (λ device. trace_of device sectors text) 0 devices (map accepted traces.items) e;
  each = λ device trace at.
      let from : 0 + device ≡ device = omega arith in
      ap (λ d. trace_of d sectors text) (sym from)
      ∙ each_value (λ device. trace_of device sectors text) 0 devices (map accepted traces.items) device (accepted trace) e
      (value_at traces.items device trace at);
}
each_trace devices sectors text (Err error) e = tt

pub fit_traces : (devices sectors : ℕ) (text : List ℕ) (result : Result (Vec Trace Global) (ReadError TraceFault))
    → Answers (λ traces. map accepted traces.items) result (traces_of devices sectors text)
    → IfOk result (λ traces. AllByRecursion (λ trace. IsTraceOf sectors trace.requests.items) traces.items)
fit_traces devices sectors text (Ok traces) e =
    all_unmapped (λ (trace : Accepted). IsTraceOf sectors trace.requests) accepted traces.items
    (each_holds (λ (trace : Accepted). IsTraceOf sectors trace.requests) (λ device. trace_of device sectors text)
    (λ device trace is. fit_trace device sectors text trace is) 0 devices (map accepted traces.items) e)
fit_traces devices sectors text (Err error) e = tt
