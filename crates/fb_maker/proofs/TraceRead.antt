-- A generated trace reads back as its requests.
use Rattle.fb_maker.proofs.Words.{◌≡◌, ℕ, zero, suc, ◌+◌, ◌-◌, ◌*◌, ◌%◌, ◌^◌, ◌<◌, ◌≤◌, List, [], ◌∷◌, ◌++◌, length, map, Bool, true, false}
use Rattle.fb_maker.proofs.Words.{refl, sym, ap, ◌∙◌, arith, append_assoc, append-nil, add-one, Some, Ok, mod-lt, length_push, nat_lt, ◌==◌}
use Rattle.fb_maker.proofs.Words.{decimal, list_all, flat_map, range_with_len, nat_tests, lines_of, fields_of, millis_text, millis_of}
use Rattle.fb_maker.proofs.Words.{number_of, flags_of, Request, Traced, read_back, whole_number, arrival_before, size_of, request_at}
use Rattle.fb_maker.proofs.Words.{line_of, flags_text, made_requests, made_trace, word}
use Rattle.fb_trace.specs.Entry.{spelled, entry_of}
use Rattle.fb_trace.specs.Line.{request_of, of_device, added_by, line_of as line_read}
use Rattle.fb_trace.specs.Reading.{Progress, at_start, next_progress, lines_from, trace_of}
use Rattle.fb_maker.proofs.Splitting.{printed, IsWord, field_then, field_last, word_printed, printed_more, line_then, no_lines}
use Rattle.fb_maker.proofs.Spelling.{decimal_word, millis_word, flags_word, marks, flags_read}

-- five words and the spaces between them
abbrev body : List ℕ → List ℕ → List ℕ → List ℕ → List ℕ → List ℕ
body a b c d e = (((a ++ 32 ∷ b) ++ 32 ∷ c) ++ 32 ∷ d) ++ 32 ∷ e

five_fields : (a b c d e : List ℕ) → IsWord a → IsWord b → IsWord c → IsWord d → IsWord e
    → fields_of (body a b c d e) ≡ a ∷ b ∷ c ∷ d ∷ e ∷ []
five_fields a b c d e wa wb wc wd we =
    ap fields_of (append_assoc ((a ++ 32 ∷ b) ++ 32 ∷ c) (32 ∷ d) (32 ∷ e) ∙ append_assoc (a ++ 32 ∷ b) (32 ∷ c) (32 ∷ (d ++ 32 ∷ e))
    ∙ append_assoc a (32 ∷ b) (32 ∷ (c ++ 32 ∷ (d ++ 32 ∷ e))))
    ∙ field_then a (b ++ 32 ∷ (c ++ 32 ∷ (d ++ 32 ∷ e))) wa
    ∙ ap (λ fields. a ∷ fields) (field_then b (c ++ 32 ∷ (d ++ 32 ∷ e)) wb)
    ∙ ap (λ fields. a ∷ b ∷ fields) (field_then c (d ++ 32 ∷ e) wc)
    ∙ ap (λ fields. a ∷ b ∷ c ∷ fields) (field_then d e wd)
    ∙ ap (λ fields. a ∷ b ∷ c ∷ d ∷ fields) (field_last e we)

five_printed : (a b c d e : List ℕ) → IsWord a → IsWord b → IsWord c → IsWord d → IsWord e → list_all printed (body a b c d e) ≡ true
five_printed a b c d e wa wb wc wd we =
    printed_more ((a ++ 32 ∷ b) ++ 32 ∷ c ++ 32 ∷ d) e (printed_more ((a ++ 32 ∷ b) ++ 32 ∷ c) d
    (printed_more (a ++ 32 ∷ b) c (printed_more a b (word_printed a wa.plain) wb.plain) wc.plain) wd.plain) we.plain

-- a request whose numbers are within the limits
pub record IsSmall (sectors number instant : ℕ) (request : Request) : Type 0 where
  pub name : request.name ≡ Traced number
  pub later : instant ≤ request.arrival
  pub arrival : request.arrival ≤ 10 ^ 15
  pub some : 0 < request.count
  pub few : request.count ≤ 2048
  pub inside : request.lbn + request.count ≤ sectors
  pub room : number ≤ 10 ^ 6

-- the line of a request without its feed
abbrev text : ℕ → Request → List ℕ
text device request =
    body (millis_text request.arrival) (decimal device) (decimal request.lbn) (decimal request.count) (flags_text request.write)

same_write : (write : Bool) → (marks write % 2 == 0) ≡ write
same_write true = refl
same_write false = refl

-- the lines so far with one more request
abbrev with_request : Progress → Request → Progress
with_request so_far request = record {
  instant = request.arrival;
  trace = record { requests = so_far.trace.requests ++ request ∷ []; passed_over = so_far.trace.passed_over };
}

same_request : (request : Request) (number : ℕ) → request.name ≡ Traced number → ◌≡◌ {A = Request}
    (record { name = Traced number; arrival = request.arrival; lbn = request.lbn; count = request.count; write = request.write }) request
same_request request number name = ap (λ n. record request { name = n }) (sym name)

-- five words ask for the request that they spell
fields_asked : (device sectors line : ℕ) (so_far : Progress) (time of_device first size flags : List ℕ) (marks : ℕ) (request : Request)
    → millis_of time ≡ Some request.arrival → number_of of_device ≡ Some device → number_of first ≡ Some request.lbn
    → number_of size ≡ Some request.count → flags_of flags ≡ Some marks
    → (marks % 2 == 0) ≡ request.write → IsSmall sectors (length so_far.trace.requests + 1) so_far.instant request
    → (text : List ℕ) → fields_of text ≡ time ∷ of_device ∷ first ∷ size ∷ flags ∷ []
    → next_progress device sectors line so_far text ≡ Ok (with_request so_far request)
unfolding line_read entry_of spelled added_by of_device request_of
fields_asked device sectors line so_far time of_device first size flags marks request et ed ef es eg write small text fields =
    let in_order : nat_lt request.arrival so_far.instant ≡ false = grind (arith, nat_tests, small.later) in
    let here : (device == device) ≡ true = grind (arith, nat_tests) in
    let some : (request.count == 0) ≡ false = grind (arith, nat_tests, small.some) in
    let few : nat_lt 2048 request.count ≡ false = grind (arith, nat_tests, small.few) in
    let inside : nat_lt sectors (request.lbn + request.count) ≡ false = grind (arith, nat_tests, small.inside) in
    let room : nat_lt 1000000 (length so_far.trace.requests + 1) ≡ false = grind (arith, nat_tests, small.room) in
    rw (fields, et, ed, ef, es, eg, in_order, here, some, few, inside, room, write)
    (ap (λ r. Ok (with_request so_far r)) (same_request request (length so_far.trace.requests + 1) small.name))

request_printed : (device : ℕ) {sectors number instant : ℕ} (request : Request) → device ≤ 10 ^ 15 → IsSmall sectors number instant request
    → sectors ≤ 10 ^ 12 → list_all printed (text device request) ≡ true
request_printed device request known small few =
    five_printed (millis_text request.arrival) (decimal device) (decimal request.lbn) (decimal request.count) (flags_text request.write)
    (millis_word request.arrival (omega (arith, small.arrival))) (decimal_word device (omega arith)) (decimal_word request.lbn
    (omega (arith, small.inside))) (decimal_word request.count (omega (arith, small.few))) (flags_word request.write)

-- the line of a request asks for that request
line_asked : (device sectors line : ℕ) (so_far : Progress) (request : Request) → device ≤ 10 ^ 15 → sectors ≤ 10 ^ 12
    → IsSmall sectors (length so_far.trace.requests + 1) so_far.instant request
    → next_progress device sectors line so_far (text device request) ≡ Ok (with_request so_far request)
line_asked device sectors line so_far request known few small =
    fields_asked device sectors line so_far (millis_text request.arrival) (decimal device) (decimal request.lbn) (decimal request.count)
    (flags_text request.write) (marks request.write) request
    (read_back request.arrival small.arrival) (whole_number device known) (whole_number request.lbn (omega (arith, small.inside)))
    (whole_number request.count (omega (arith, small.few))) (flags_read request.write)
    (same_write request.write) small (text device request)
    (five_fields (millis_text request.arrival) (decimal device) (decimal request.lbn) (decimal request.count) (flags_text request.write)
    (millis_word request.arrival (omega (arith, small.arrival))) (decimal_word device (omega arith)) (decimal_word request.lbn
    (omega (arith, small.inside))) (decimal_word request.count (omega (arith, small.few))) (flags_word request.write))

early : (number i : ℕ) → arrival_before number i ≤ 12000000 * i
early number zero = omega arith
early number (suc i) = omega (arith, early number i)

small_request : (number sectors i line_number instant : ℕ) → 1 ≤ sectors → sectors ≤ 10 ^ 12 → i + 1 ≤ 10 ^ 6 → line_number ≡ i + 1
    → instant ≡ arrival_before number i
    → IsSmall sectors line_number instant (request_at number sectors i)
unfolding request_at
small_request number sectors i line_number instant some few room at begin =
    let place : word number (4 * i + 2) % (sectors - size_of number sectors i + 1) < sectors - size_of number sectors i + 1 =
    mod-lt (word number (4 * i + 2)) (omega arith) in
    record {
      name = ap Traced (sym at);
      later = omega (arith, begin);
      arrival = omega (arith, early number i);
      some = omega arith;
      few = omega arith;
      inside = omega (arith, place);
      room = omega arith;
    }

arrives : (number sectors i : ℕ) → (request_at number sectors i).arrival ≡ arrival_before number (i + 1)
unfolding request_at
arrives number sectors i = rw add-one refl

lines_end : (device sectors line : ℕ) (so_far : Progress) → lines_from device sectors line so_far [] ≡ Ok so_far.trace
unfolding lines_from
lines_end device sectors line so_far = refl

lines_more : (device sectors line : ℕ) (so_far next : Progress) (text : List ℕ) (texts : List (List ℕ))
    → next_progress device sectors line so_far text ≡ Ok next
    → lines_from device sectors line so_far (text ∷ texts) ≡ lines_from device sectors (line + 1) next texts
unfolding lines_from
lines_more device sectors line so_far next text texts e = rw e refl

-- the text begins with the line of its first request
first_line : (device : ℕ) (request : Request) (rest : List ℕ) → line_of device request ++ rest ≡ text device request ++ 10 ∷ rest
unfolding line_of
first_line device request rest = append_assoc (text device request) (10 ∷ []) rest

-- the lines of n requests from the i-th on are read as these requests
read_from : (number device sectors : ℕ) → device ≤ 10 ^ 15 → 1 ≤ sectors → sectors ≤ 10 ^ 12 → (n i line : ℕ) (so_far : Progress)
    → i + n ≤ 10 ^ 6
    → so_far.instant ≡ arrival_before number i → length so_far.trace.requests ≡ i → so_far.trace.passed_over ≡ 0
    → lines_from device sectors line so_far
    (lines_of (flat_map (λ line. line) (map (line_of device) (map (request_at number sectors) (range_with_len i n)))))
    ≡ Ok (record { requests = so_far.trace.requests ++ map (request_at number sectors) (range_with_len i n); passed_over = 0 })
read_from number device sectors known some few zero i line so_far room instant count passed =
    ap (lines_from device sectors line so_far) no_lines ∙ lines_end device sectors line so_far
    ∙ ap (λ (requests : List Request). Ok (record { requests = requests; passed_over = so_far.trace.passed_over }))
    (sym (append-nil so_far.trace.requests))
    ∙ ap (λ (n : ℕ). Ok (record { requests = so_far.trace.requests ++ []; passed_over = n })) passed
read_from number device sectors known some few (suc n) i line so_far room instant count passed =
    let request = request_at number sectors i in
    let rest = flat_map (λ line. line) (map (line_of device) (map (request_at number sectors) (range_with_len (i + 1) n))) in
    let next = with_request so_far request in
    let small = small_request number sectors i (length so_far.trace.requests
    + 1) so_far.instant some few (omega arith) (omega (arith, count)) instant in
    ap (λ bytes. lines_from device sectors line so_far (lines_of bytes)) (first_line device request rest)
    ∙ ap (lines_from device sectors line so_far) (line_then (text device request) rest (request_printed device request known small few))
    ∙ lines_more device sectors line so_far next (text device request) (lines_of rest)
    (line_asked device sectors line so_far request known few small)
    ∙ read_from number device sectors known some few n (i + 1) (line + 1) next (omega arith) (arrives number sectors i)
    (length_push so_far.trace.requests request ∙ ap (λ k. k + 1) count) passed
    ∙ ap (λ (requests : List Request). Ok (record { requests = requests; passed_over = 0 }))
    (append_assoc so_far.trace.requests (request ∷ []) (map (request_at number sectors) (range_with_len (i + 1) n)))

pub trace_read : (number device sectors n : ℕ) → device ≤ 10 ^ 15 → 1 ≤ sectors → sectors ≤ 10 ^ 12 → n ≤ 10 ^ 6
    → trace_of device sectors (made_trace number device sectors n)
    ≡ Ok (record { requests = made_requests number sectors n; passed_over = 0 })
trace_read number device sectors n known some few room =
    read_from number device sectors known some few n 0 1 at_start (omega arith) refl refl refl
