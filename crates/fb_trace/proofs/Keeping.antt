-- What is accepted of a trace is fit for a replay.
use Rattle.std.proofs.Common.{◌≡◌, ℕ, ◌+◌, ◌≤◌, ◌^◌, List, [], ◌∷◌, ◌++◌, length, false, refl, sym, ap, ◌∙◌, inl, inr, subst, arith}
use Rattle.std.proofs.Common.{Option, Some, None, Ok}
use Rattle.std.specs.Prelude.{map, nat_lt, ◌==◌}
use Rattle.std.specs.List.{AllByRecursion, range_with_len}
use Rattle.std.proofs.lemmas.Bool.{cases_Bool}
use Rattle.std.proofs.lemmas.Bool.Decides.{nat_tests}
use Rattle.std.proofs.lemmas.List.{map_push, length_push}
use Rattle.std.proofs.lemmas.List.FromFn.{map-range_with_len_more}
use Rattle.fb_units.proofs.Comparing.{rising_push, some_number}
use Rattle.fb_units.proofs.Lists.{all_push, all_weaker, same_Ok}
use Rattle.fb_units.specs.Judging.{or_refuse, refuse}
use Rattle.fb_units.specs.Lines.{fields_of, lines_of}
use Rattle.fb_units.specs.Numbers.{millis_of, number_of, flags_of}
use Rattle.fb_units.specs.Rising.{IsRising}
use Rattle.fb_units.specs.declared.types.Request.{Request}
use Rattle.fb_units.specs.declared.types.Name.TheVariants.{Traced}
use Rattle.fb_units.proofs.Judged.{both_ok, value_ok, test_ok, step_ok, millis_small}
use Rattle.fb_trace.specs.declared.entry.Entry.{Entry}
use Rattle.fb_trace.specs.declared.trace.TraceReason.TheVariants.{BadTime, BadNumber, OutOfOrder, Empty, TooLarge, BeyondDisk, TooMany}
use Rattle.fb_trace.specs.declared.reader.Line.{Line}
use Rattle.fb_trace.specs.declared.reader.Line.TheVariants.{Blank, PassedOver, Asked}
use Rattle.fb_trace.specs.Entry.{entry_of, spelled}
use Rattle.fb_trace.specs.Line.{request_of, of_device, entry_after, added_by, line_of}
use Rattle.fb_trace.specs.Servable.{IsServable, IsTraceOf}
use Rattle.fb_trace.specs.Reading.{Accepted, Progress, at_start, with_line, fault_at, next_progress, lines_from, trace_of}

-- a request that may come next
record IsNext (sectors : ℕ) (so_far : Progress) (request : Request) : Type 0 where
  later : so_far.instant ≤ request.arrival
  servable : IsServable sectors request
  name : request.name ≡ Traced (length so_far.trace.requests + 1)
  few : length so_far.trace.requests + 1 ≤ 10 ^ 6

-- what a line adds may come next: a request that is passed over isn't early either
abbrev MayFollow : ℕ → Progress → Line → Type 0
MayFollow sectors so_far Blank = Unit {0}
MayFollow sectors so_far (PassedOver arrival) = so_far.instant ≤ arrival
MayFollow sectors so_far (Asked request) = IsNext sectors so_far request

-- the lines so far hold a sound trace, whose last arrival isn't after their instant
record IsProgress (sectors : ℕ) (so_far : Progress) : Type 0 where
  trace : IsTraceOf sectors so_far.trace.requests
  last : AllByRecursion (λ arrival. arrival ≤ so_far.instant) (map (λ request. request.arrival) so_far.trace.requests)

later : (a b : ℕ) (xs : List ℕ) → a ≤ b → AllByRecursion (λ x. x ≤ a) xs → AllByRecursion (λ x. x ≤ b) xs
later a b xs h all = all_weaker (λ x. x ≤ a) (λ x. x ≤ b) (λ x le. omega arith) xs all

abbrev arrivals : List Request → List ℕ
arrivals requests = map (λ request. request.arrival) requests

names_push : (requests : List Request) (request : Request) → map (λ r. r.name) requests ≡ map Traced (range_with_len 1 (length requests))
    → request.name ≡ Traced (length requests + 1)
    → map (λ r. r.name) (requests ++ request ∷ []) ≡ map Traced (range_with_len 1 (length (requests ++ request ∷ [])))
names_push requests request names name =
    map_push (λ (r : Request). r.name) requests request
    ∙ ap (λ front. front ++ request.name ∷ []) names
    ∙ ap (λ n. map Traced (range_with_len 1 (length requests)) ++ n ∷ []) name
    ∙ sym (map-range_with_len_more Traced 1 (length requests) (length requests + 1) (omega arith))
    ∙ ap (λ n. map Traced (range_with_len 1 n)) (sym (length_push requests request))

keeps : (sectors : ℕ) (so_far : Progress) (line : Line) → MayFollow sectors so_far line → IsProgress sectors so_far
    → IsProgress sectors (with_line so_far line)
keeps sectors so_far Blank may is = is
keeps sectors so_far (PassedOver arrival) may is = record {
  trace = is.trace;
  last = later so_far.instant arrival (arrivals so_far.trace.requests) may is.last;
}
keeps sectors so_far (Asked request) next is =
    let requests = so_far.trace.requests in
    let last = later so_far.instant request.arrival (arrivals requests) next.later is.last in
    record {
      trace = record {
        servable = all_push (IsServable sectors) requests request is.trace.servable next.servable;
        names = names_push requests request is.trace.names next.name;
        arrivals = subst IsRising (sym (map_push (λ (r : Request). r.arrival) requests request))
            (rising_push (arrivals requests) request.arrival is.trace.arrivals last);
        few = omega (arith, length_push requests request, next.few);
      };
      last = subst (AllByRecursion (λ a. a ≤ request.arrival)) (sym (map_push (λ (r : Request). r.arrival) requests request))
          (all_push (λ a. a ≤ request.arrival) (arrivals requests) request.arrival last (omega arith));
    }

time_small : (time device block size flags : List ℕ) (entry : Entry) → spelled time device block size flags ≡ Ok entry
    → entry.arrival ≤ 10 ^ 15
unfolding spelled
time_small time device block size flags entry e =
    let arrival = both_ok (or_refuse BadTime (millis_of time)) _ entry e in
    let of_device = both_ok (or_refuse (BadNumber 2) (number_of device)) _ entry arrival.2 in
    let first = both_ok (or_refuse (BadNumber 3) (number_of block)) _ entry of_device.2 in
    let sectors = both_ok (or_refuse (BadNumber 4) (number_of size)) _ entry first.2 in
    let marks = both_ok (or_refuse (BadNumber 5) (flags_of flags)) _ entry sectors.2 in
    subst (λ (x : Entry). x.arrival ≤ 10 ^ 15) (same_Ok _ entry marks.2)
    (millis_small time arrival.0 (value_ok BadTime (millis_of time) arrival.0 arrival.1))

arrival_small : (fields : List (List ℕ)) (entry : Entry) → entry_of fields ≡ Ok entry → entry.arrival ≤ 10 ^ 15
unfolding entry_of
arrival_small [] entry e = cc
arrival_small (time ∷ []) entry e = cc
arrival_small (time ∷ device ∷ []) entry e = cc
arrival_small (time ∷ device ∷ block ∷ []) entry e = cc
arrival_small (time ∷ device ∷ block ∷ size ∷ []) entry e = cc
arrival_small (time ∷ device ∷ block ∷ size ∷ flags ∷ more) entry e = time_small time device block size flags entry e

not_early : (a b : ℕ) → nat_lt a b ≡ false → b ≤ a
not_early a b e = grind (arith, nat_tests)

-- an entry that may follow isn't early, and arrives within the limit
follows : (instant : ℕ) (fields : List (List ℕ)) (entry : Entry) → entry_after instant fields ≡ Ok (Some entry)
    → (instant ≤ entry.arrival) × (entry.arrival ≤ 10 ^ 15)
follows instant [] entry e = cc
follows instant (field ∷ fields) entry e =
    let read = both_ok (entry_of (field ∷ fields)) _ (Some entry) e in
    let ordered = both_ok (refuse OutOfOrder (nat_lt read.0.arrival instant)) _ (Some entry) read.2 in
    let same : read.0 ≡ entry = cc in
    subst (λ (x : Entry). (instant ≤ x.arrival) × (x.arrival ≤ 10 ^ 15)) same (
      not_early read.0.arrival instant (test_ok OutOfOrder (nat_lt read.0.arrival instant) ordered.0 ordered.1),
      arrival_small (field ∷ fields) read.0 read.1,
    )

-- a request that an entry asks for may come next
asked_next : (sectors : ℕ) (so_far : Progress) (entry : Entry) (request : Request)
    → request_of sectors (length so_far.trace.requests + 1) entry ≡ Ok request
    → so_far.instant ≤ entry.arrival → entry.arrival ≤ 10 ^ 15 → IsNext sectors so_far request
unfolding request_of
asked_next sectors so_far entry request e later small =
    let number = length so_far.trace.requests + 1 in
    let some = both_ok (refuse Empty (entry.size == 0)) _ request e in
    let few = both_ok (refuse TooLarge (nat_lt 2048 entry.size)) _ request some.2 in
    let inside = both_ok (refuse BeyondDisk (nat_lt sectors (entry.first + entry.size))) _ request few.2 in
    let room = both_ok (refuse TooMany (nat_lt 1000000 number)) _ request inside.2 in
    subst (IsNext sectors so_far) (same_Ok _ request room.2) (record {
      later = later;
      servable = record {
        some = some_number entry.size (test_ok Empty (entry.size == 0) some.0 some.1);
        inside =
            not_early sectors (entry.first + entry.size) (test_ok BeyondDisk (nat_lt sectors (entry.first + entry.size)) inside.0 inside.1);
        few = not_early 2048 entry.size (test_ok TooLarge (nat_lt 2048 entry.size) few.0 few.1);
        arrival = small;
      };
      name = refl;
      few = not_early 1000000 number (test_ok TooMany (nat_lt 1000000 number) room.0 room.1);
    })

-- a request arrives when its entry says
pub asked_arrival : (sectors number : ℕ) (entry : Entry) (request : Request) → request_of sectors number entry ≡ Ok request
    → request.arrival ≡ entry.arrival
unfolding request_of
asked_arrival sectors number entry request e =
    let some = both_ok (refuse Empty (entry.size == 0)) _ request e in
    let few = both_ok (refuse TooLarge (nat_lt 2048 entry.size)) _ request some.2 in
    let inside = both_ok (refuse BeyondDisk (nat_lt sectors (entry.first + entry.size))) _ request few.2 in
    let room = both_ok (refuse TooMany (nat_lt 1000000 number)) _ request inside.2 in
    subst (λ (r : Request). r.arrival ≡ entry.arrival) (same_Ok _ request room.2) refl

-- what an entry adds may come next
device_follows : (device sectors : ℕ) (so_far : Progress) (entry : Entry) (line : Line)
    → of_device device sectors (length so_far.trace.requests + 1) entry ≡ Ok line
    → so_far.instant ≤ entry.arrival → entry.arrival ≤ 10 ^ 15 → MayFollow sectors so_far line
unfolding of_device
device_follows device sectors so_far entry line e later small = elim (cases_Bool (entry.device == device)) [
  | inl own ↦
      let request = both_ok (request_of sectors (length so_far.trace.requests + 1) entry) _ line (rw own at e) in
      subst (MayFollow sectors so_far) (same_Ok _ line request.2) (asked_next sectors so_far entry request.0 request.1 later small)
  | inr other ↦ subst (MayFollow sectors so_far) (same_Ok _ line (rw other at e)) later
]

line_follows : (device sectors : ℕ) (so_far : Progress) (fields : List (List ℕ)) (entry : Option Entry) (line : Line)
    → entry_after so_far.instant fields ≡ Ok entry
    → added_by device sectors (length so_far.trace.requests + 1) entry ≡ Ok line → MayFollow sectors so_far line
unfolding added_by
line_follows device sectors so_far fields None line read e = subst (MayFollow sectors so_far) (same_Ok Blank line e) tt
line_follows device sectors so_far fields (Some entry) line read e =
    let may = follows so_far.instant fields entry read in device_follows device sectors so_far entry line e may.0 may.1

-- one more line keeps a trace fit
kept : (device sectors number : ℕ) (so_far next : Progress) (line : List ℕ) → next_progress device sectors number so_far line ≡ Ok next
    → IsProgress sectors so_far → IsProgress sectors next
unfolding line_of
kept device sectors number so_far next line e is =
    let count = length so_far.trace.requests + 1 in
    let added = both_ok (line_of device sectors so_far.instant count (fields_of line)) _ next (step_ok (fault_at number) _ next e) in
    let read = both_ok (entry_after so_far.instant (fields_of line)) (added_by device sectors count) added.0 added.1 in
    subst (IsProgress sectors) (same_Ok _ next added.2)
    (keeps sectors so_far added.0 (line_follows device sectors so_far (fields_of line) read.0 added.0 read.1 read.2) is)

fit_from : (device sectors number : ℕ) (so_far : Progress) (lines : List (List ℕ)) (trace : Accepted)
    → lines_from device sectors number so_far lines ≡ Ok trace
    → IsProgress sectors so_far → IsTraceOf sectors trace.requests
unfolding lines_from
fit_from device sectors number so_far [] trace e is =
    subst (λ (t : Accepted). IsTraceOf sectors t.requests) (same_Ok so_far.trace trace e) is.trace
fit_from device sectors number so_far (line ∷ lines) trace e is =
    let next = both_ok (next_progress device sectors number so_far line) _ trace e in
    fit_from device sectors (number + 1) next.0 lines trace next.2 (kept device sectors number so_far next.0 line next.1 is)

nothing_read : (sectors : ℕ) → IsProgress sectors at_start
nothing_read sectors = record { trace = record { servable = tt; names = refl; arrivals = tt; few = omega arith }; last = tt }

-- what is accepted of a text is fit for a replay
pub fit_trace : (device sectors : ℕ) (text : List ℕ) (trace : Accepted) → trace_of device sectors text ≡ Ok trace
    → IsTraceOf sectors trace.requests
fit_trace device sectors text trace e = fit_from device sectors 1 at_start (lines_of text) trace e (nothing_read sectors)
