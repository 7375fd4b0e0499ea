-- Who has arrived and is taken, and the next instant and decision, from what stands before them.
use Rattle.fb_decide.proofs.Words.{◌≡◌, ℕ, zero, suc, ◌+◌, ◌<◌, ◌≤◌, max, List, [], ◌∷◌, ◌++◌, length, drop, Bool, true, refl, ap, sym}
use Rattle.fb_decide.proofs.Words.{◌∙◌, arith, Option, Some, None, append_assoc, inl, inr, subst, ◌⊎◌, map, take, get_or, slice_get}
use Rattle.fb_decide.proofs.Words.{IfSome, nat_le, unwrap_or, option_map, AllByRecursion, fold, nat_tests, cases_lt, length-append}
use Rattle.fb_decide.proofs.Words.{drop_more, same_Some, all_filter, all_weaker, Track, Request, IsRising, after_is, by_is, Disk, Key}
use Rattle.fb_decide.proofs.Words.{first_least, first_ready, start_of, service, finish, last_track, plain, Served, IsRequestOf, RunState}
use Rattle.fb_decide.proofs.Words.{left, IsWaiting, AreByArrival, Course, Call, Inputs, requests, instants_of, serves, idles, idle_until}
use Rattle.fb_decide.proofs.Words.{last_decision, decisions_from, IsAmong, was_all_among, next_of}
use Rattle.std.proofs.Common.{min}
use Rattle.std.specs.Prelude.{◌==◌, filter}
use Rattle.std.proofs.lemmas.List.{nil_from_length}
use Rattle.std.proofs.lemmas.Option.{none-some}
use Rattle.fb_units.proofs.Filtered.{rising_filter}
use Rattle.fb_model.specs.PlainReplay.{better}
use Rattle.fb_model.specs.Laws.{IsFirstLeast, IsPickOf}
use Rattle.fb_model.proofs.Picks.{pick_of-first_least}
use Rattle.fb_model.proofs.Picks.{all_without}
use Rattle.fb_model.proofs.Instants.{rising_all_among, one_filtered, filtered_below}
use Rattle.fb_decide.proofs.Instants.{LieApart, all_of_both, one_of_second, idle_none, idle_next, last_after, last_passed}
use Rattle.fb_model.proofs.Replays.{none_arrived, start_from as start_after}

-- ---- who has arrived, and who is taken

-- none of them has arrived
pub none_come : (now a : ℕ) → now < a → (rs : List Request) → AllByRecursion (λ r. a ≤ r.arrival) rs
    → AllByRecursion (λ r. now < r.arrival) rs
none_come now a h rs all = all_weaker (λ (r : Request). a ≤ r.arrival) (λ r. now < r.arrival) (λ r le. omega (arith, h, le)) rs all

-- the first of those ahead starts when it arrives
pub start_ahead : (now : ℕ) (r : Request) (rs : List Request) → AreByArrival (r ∷ rs) → start_of now (r ∷ rs) ≡ max r.arrival now
start_ahead now r rs order = elim (cases_lt now r.arrival) [
  | inl h ↦ rw (after_is r.arrival now h, none_arrived now rs (none_come now r.arrival h rs order.0)) (omega arith)
  | inr h ↦ rw (by_is r.arrival now h) (omega arith)
]

-- a request that waits starts now
pub start_waiting : (now : ℕ) (ps qs : List Request) → 0 < length ps → AllByRecursion (λ r. r.arrival ≤ now) ps
    → start_of now (ps ++ qs) ≡ now
start_waiting now [] qs h all = absurd (omega arith)
start_waiting now (p ∷ ps) qs h all = rw (by_is p.arrival now all.0) refl

none_ready : (key : Request → ℕ) (now : ℕ) (rs : List Request) → AllByRecursion (λ r. now < r.arrival) rs → first_ready key now rs ≡ None
none_ready key now [] all = refl
none_ready key now (r ∷ rs) all = rw (after_is r.arrival now all.0, none_ready key now rs all.1) refl

abbrev with_rest : List Request → Request × List Request → Request × List Request
with_rest qs best = (best.0, best.1 ++ qs)

better_rest : (key : Request → ℕ) (p : Request) (ps qs : List Request) (best : Option (Request × List Request))
    → better key p (ps ++ qs) (option_map (with_rest qs) best) ≡ option_map (with_rest qs) (better key p ps best)
better_rest key p ps qs None = refl
better_rest key p ps qs (Some best) = grind arith

-- those ahead are not looked at
pub ready_waiting : (key : Request → ℕ) (now : ℕ) (ps qs : List Request) → AllByRecursion (λ r. r.arrival ≤ now) ps
    → AllByRecursion (λ r. now < r.arrival) qs
    → first_ready key now (ps ++ qs) ≡ option_map (with_rest qs) (first_least key ps)
ready_waiting key now [] qs here ahead = none_ready key now qs ahead
ready_waiting key now (p ∷ ps) qs here ahead =
    rw (by_is p.arrival now here.0, ready_waiting key now ps qs here.1 ahead) (better_rest key p ps qs (first_least key ps))

pub order_dropped : (n : ℕ) (rs : List Request) → AreByArrival rs → AreByArrival (drop n rs)
order_dropped zero rs order = order
order_dropped (suc n) [] order = order
order_dropped (suc n) (r ∷ rs) order = order_dropped n rs order.1

-- behind one that has not arrived, none has
pub ahead_of : (now n : ℕ) (rs : List Request) → AreByArrival rs → IfSome (slice_get rs n) (λ r. now < r.arrival)
    → AllByRecursion (λ r. now < r.arrival) (drop n rs)
ahead_of now zero [] order h = tt
ahead_of now zero (r ∷ rs) order h = (h, none_come now r.arrival h rs order.0)
ahead_of now (suc n) [] order h = tt
ahead_of now (suc n) (r ∷ rs) order h = ahead_of now n rs order.1 h

-- the next service and the rest
pub plain_next : (n : ℕ) (disk : Disk) (key : Key) (head : Track) (now : ℕ) (left : List Request) (start : ℕ) (pick : Request)
    (rest : List Request)
    → start ≡ start_of now left → first_ready (key disk head start) start left ≡ Some (pick, rest)
    → plain (suc n) disk key head now left
    ≡ service disk head start pick
    ∷ plain n disk key (last_track disk (service disk head start pick)) (finish (service disk head start pick)) rest
unfolding plain
plain_next n disk key head now left start pick rest e f = rw (← e) (rw f refl)

pub taken : (P : Request → Type 0) (key : Request → ℕ) (ps : List Request) (r : Request) (rest : List Request) → AllByRecursion P ps
    → first_least key ps ≡ Some (r, rest)
    → P r × (AllByRecursion P rest × (length rest + 1 ≡ length ps))
taken P key ps r rest all e =
    let m : IsFirstLeast key ps r rest = subst (IsPickOf key ps) e (pick_of-first_least key ps) in
    let both = all_without P m.front m.back r (subst (AllByRecursion P) m.whole all) in (
      both.0,
      (
        subst (AllByRecursion P) (sym m.rest) both.1,
        omega (arith, ap length m.whole, ap length m.rest, length-append m.front (r ∷ m.back), length-append m.front m.back),
      ),
    )

-- what the queue takes is what the plain replay takes
pub taken_ready : (key : Request → ℕ) (now : ℕ) (ps qs : List Request) (r : Request) (rest : List Request)
    → AllByRecursion (λ r. r.arrival ≤ now) ps → AllByRecursion (λ r. now < r.arrival) qs
    → first_least key ps ≡ Some (r, rest) → first_ready key now (ps ++ qs) ≡ Some (r, rest ++ qs)
taken_ready key now ps qs r rest here ahead e = ready_waiting key now ps qs here ahead ∙ ap (option_map (with_rest qs)) e

-- requests that have arrived join those that wait
pub join_waiting : {disk : Disk} {before : RunState} {course : Course} {waiting : List Request} {joined : ℕ}
    → IsWaiting disk before
    → course.joined ≤ length before.requests → joined ≡ course.joined
    → left before.requests course.joined waiting ≡ left before.requests before.course.joined before.pending
    → AllByRecursion (λ r. r.arrival ≤ course.now) waiting
    → IsWaiting disk (record before { course = course; pending = waiting; joined = joined })
join_waiting {disk} h within counted same arrived = record {
  within = within;
  counted = counted;
  arrived = arrived;
  on_disk = subst (AllByRecursion (IsRequestOf disk.map)) (sym same) h.on_disk;
}

-- one more of them joins: the same are left
pub next_joined : (requests before after : List Request) (i : ℕ) (d : Request) → i < length requests
    → after ≡ before ++ get_or requests i d ∷ [] → left requests (i + 1) after ≡ left requests i before
next_joined requests before after i d within is =
    ap (λ ps. ps ++ drop (i + 1) requests) is ∙ (append_assoc before (get_or requests i d ∷ []) (drop (i + 1) requests)
    ∙ ap (λ rs. before ++ rs) (sym (drop_more requests i d within)))

-- where none waits, the same is so at any other instant
pub still_waiting : {disk : Disk} {before : RunState} {course : Course} → IsWaiting disk before → course.joined ≡ before.course.joined
    → before.pending ≡ [] → IsWaiting disk (record before { course = course })
still_waiting {disk} {before} {course} h same none = record {
  within = subst (λ n. n ≤ length before.requests) (sym same) h.within;
  counted = h.counted ∙ sym same;
  arrived = subst (AllByRecursion (λ r. r.arrival ≤ course.now)) (sym none) tt;
  on_disk = subst (λ n. AllByRecursion (IsRequestOf disk.map) (left before.requests n before.pending)) (sym same) h.on_disk;
}

-- nothing is left, so nothing follows
pub none_served : (n : ℕ) (disk : Disk) (key : Key) (head : Track) (now : ℕ) (rs : List Request) → n ≡ 0 → plain n disk key head now rs ≡ []
unfolding plain
none_served zero disk key head now rs e = refl
none_served (suc n) disk key head now rs e = absurd (omega arith)

-- a list of services goes on by one
pub one_more : (done : List Served) (served : Served) (before after whole : List Served) → before ≡ served ∷ after → done ++ before ≡ whole
    → (done ++ served ∷ []) ++ after ≡ whole
one_more done served before after whole e h = append_assoc done (served ∷ []) after ∙ ap (λ xs. done ++ xs) (sym e) ∙ h

pub none_waits : (ps : List Request) → true ≡ (length ps == 0) → ps ≡ []
none_waits ps e = nil_from_length ps (grind (arith, nat_tests))

-- ---- the next instant at which a request arrives or a call takes effect

-- no request arrives and no call takes effect before this instant, and one does then
pub record IsNextOf (a : Option Request) (b : Option Call) (t : ℕ) : Type 0 where
  pub arrives : IfSome a (λ r. t ≤ r.arrival)
  pub calls : IfSome b (λ c. t ≤ c.instant)
  pub one : ((r : Request) × (a ≡ Some r) × (r.arrival ≡ t)) ⊎ ((c : Call) × (b ≡ Some c) × (c.instant ≡ t))

either_is : (r : Request) (c : Call) (t : ℕ) → min r.arrival c.instant ≡ t → IsNextOf (Some r) (Some c) t
either_is r c t e = record {
  arrives = omega (arith, e);
  calls = omega (arith, e);
  one = elim (cases_lt r.arrival c.instant) [
    | inl first ↦ inl (r, refl, (let h : r.arrival ≡ t = omega (arith, e, first) in h))
    | inr second ↦ inr (c, refl, (let h : c.instant ≡ t = omega (arith, e, second) in h))
  ];
}

pub next_is : (a : Option Request) (b : Option Call) (t : ℕ) → next_of a b ≡ Some t → IsNextOf a b t
next_is None None t e = absurd (none-some t e)
next_is (Some r) None t e = let same = same_Some r.arrival t e in
    record { arrives = omega (arith, same); calls = tt; one = inl (r, refl, same) }
next_is None (Some c) t e = let same = same_Some c.instant t e in
    record { arrives = tt; calls = omega (arith, same); one = inr (c, refl, same) }
next_is (Some r) (Some c) t e = either_is r c t (same_Some (min r.arrival c.instant) t e)

-- and where there is none, nothing is to come
pub none_is : (a : Option Request) (b : Option Call) → next_of a b ≡ None → (a ≡ None) × (b ≡ None)
none_is None None e = (refl, refl)
none_is (Some r) None e = absurd (none-some r.arrival (sym e))
none_is None (Some c) e = absurd (none-some c.instant (sym e))
none_is (Some r) (Some c) e = absurd (none-some (min r.arrival c.instant) (sym e))

module _ {X : Type 0} (f : X → ℕ) where
  -- of elements in order the first n have come, and the others come no earlier than the next
  apart_at : (now t n : ℕ) (xs : List X) → IsRising (map f xs) → AllByRecursion (λ x. f x ≤ now) (take n xs)
      → IfSome (slice_get xs n) (λ x. t ≤ f x) → LieApart now t (map f xs)
  apart_at now t zero [] rising come next = tt
  apart_at now t zero (x ∷ xs) rising come next =
      (inr next, all_weaker (λ y. f x ≤ y) (λ y. (y ≤ now) ⊎ (t ≤ y)) (λ y h. inr (omega (arith, h, next))) (map f xs) rising.0)
  apart_at now t (suc n) [] rising come next = tt
  apart_at now t (suc n) (x ∷ xs) rising come next = (inl come.0, apart_at now t n xs rising.1 come.1 next)

  passed_at : (now n : ℕ) (xs : List X) → AllByRecursion (λ x. f x ≤ now) (take n xs) → slice_get xs n ≡ None
      → AllByRecursion (λ t. t ≤ now) (map f xs)
  passed_at now zero [] come none = tt
  passed_at now zero (x ∷ xs) come none = absurd (none-some x (sym none))
  passed_at now (suc n) [] come none = tt
  passed_at now (suc n) (x ∷ xs) come none = (come.0, passed_at now n xs come.1 none)

  there_at : (n : ℕ) (xs : List X) (x : X) → slice_get xs n ≡ Some x → IsAmong (f x) (map f xs)
  there_at n [] x at = absurd (none-some x at)
  there_at zero (y ∷ xs) x at = inl (ap f (same_Some y x at))
  there_at (suc n) (y ∷ xs) x at = inr (there_at n xs x at)

-- none is left behind the last one
pub none_dropped : {X : Type 0} (n : ℕ) (xs : List X) → slice_get xs n ≡ None → drop n xs ≡ []
none_dropped zero [] none = refl
none_dropped zero (x ∷ xs) none = absurd (none-some x (sym none))
none_dropped (suc n) [] none = refl
none_dropped (suc n) (x ∷ xs) none = none_dropped n xs none

-- requests behind the next one arrive no earlier
pub later_dropped : (t n : ℕ) (list : List Request) → IsRising (map (λ r. r.arrival) list) → IfSome (slice_get list n) (λ r. t ≤ r.arrival)
    → AllByRecursion (λ r. t ≤ r.arrival) (drop n list)
later_dropped t zero [] rising next = tt
later_dropped t zero (r ∷ rs) rising next = (next, behind rs rising.0) where
  behind : (rs : List Request) → AllByRecursion (λ later. r.arrival ≤ later) (map (λ r. r.arrival) rs)
      → AllByRecursion (λ r. t ≤ r.arrival) rs
  behind [] all = tt
  behind (o ∷ rs) all = (omega (arith, all.0, next), behind rs all.1)
later_dropped t (suc n) [] rising next = tt
later_dropped t (suc n) (r ∷ rs) rising next = later_dropped t n rs rising.1 next

-- what has come by now, and that nothing else has
pub record HasCome (inputs : Inputs) (now joined called : ℕ) : Type 0 where
  pub rising : IsRising (map (λ r. r.arrival) (requests inputs))
  pub instants : IsRising (map (λ c. c.instant) inputs.calls)
  pub arrivals : AllByRecursion (λ r. r.arrival ≤ now) (take joined (requests inputs))
  pub calls : AllByRecursion (λ c. c.instant ≤ now) (take called inputs.calls)
  pub no_arrival : IfSome (slice_get (requests inputs) joined) (λ r. now < r.arrival)
  pub no_call : IfSome (slice_get inputs.calls called) (λ c. now < c.instant)

module _ (inputs : Inputs) (now joined called : ℕ) (come : HasCome inputs now joined called) where
  abbrev next : Option ℕ
  next = next_of (slice_get (requests inputs) joined) (slice_get inputs.calls called)

  pub rising_instants : IsRising (instants_of inputs)
  rising_instants = rising_all_among (map (λ c. c.instant) inputs.calls) (map (λ r. r.arrival) (requests inputs)) come.rising

  module _ (t : ℕ) (h : next ≡ Some t) where
    is_next : IsNextOf (slice_get (requests inputs) joined) (slice_get inputs.calls called) t
    is_next = next_is (slice_get (requests inputs) joined) (slice_get inputs.calls called) t h

    pub to_come : now < t
    to_come = elim is_next.one [
      | inl first ↦ (let late : now < first.0.arrival =
          subst (λ (o : Option Request). IfSome o (λ r. now < r.arrival)) first.1 come.no_arrival in omega (arith, late, first.2))
      | inr second ↦ (let late : now < second.0.instant =
          subst (λ (o : Option Call). IfSome o (λ c. now < c.instant)) second.1 come.no_call in omega (arith, late, second.2))
    ]

    pub among_instants : IsAmong t (instants_of inputs)
    among_instants = elim is_next.one [
      | inl first ↦ was_all_among t (map (λ c. c.instant) inputs.calls) (map (λ r. r.arrival) (requests inputs))
          (subst (λ u. IsAmong u (map (λ r. r.arrival) (requests inputs))) first.2
          (there_at (λ r. r.arrival) joined (requests inputs) first.0 first.1))
      | inr second ↦ one_of_second t (map (λ c. c.instant) inputs.calls) (map (λ r. r.arrival) (requests inputs))
          (subst (λ u. IsAmong u (map (λ c. c.instant) inputs.calls)) second.2
          (there_at (λ c. c.instant) called inputs.calls second.0 second.1))
    ]

    pub apart_instants : LieApart now t (instants_of inputs)
    apart_instants = all_of_both (λ x. (x ≤ now) ⊎ (t ≤ x)) (map (λ c. c.instant) inputs.calls) (map (λ r. r.arrival) (requests inputs))
        (apart_at (λ r. r.arrival) now t joined (requests inputs) come.rising come.arrivals is_next.arrives)
        (apart_at (λ c. c.instant) now t called inputs.calls come.instants come.calls is_next.calls)

    pub left_later : AllByRecursion (λ r. t ≤ r.arrival) (drop joined (requests inputs))
    left_later = later_dropped t joined (requests inputs) come.rising is_next.arrives

  module _ (h : next ≡ None) where
    pub passed_instants : AllByRecursion (λ x. x ≤ now) (instants_of inputs)
    passed_instants =
        let none = none_is (slice_get (requests inputs) joined) (slice_get inputs.calls called) h in
        all_of_both (λ x. x ≤ now) (map (λ c. c.instant) inputs.calls) (map (λ r. r.arrival) (requests inputs))
        (passed_at (λ r. r.arrival) now joined (requests inputs) come.arrivals none.0)
        (passed_at (λ c. c.instant) now called inputs.calls come.calls none.1)

    pub none_left : drop joined (requests inputs) ≡ []
    none_left = none_dropped joined (requests inputs) (none_is (slice_get (requests inputs) joined) (slice_get inputs.calls called) h).0

-- ---- the next decision, from what stands before it

-- a request that starts now is the next decision
pub serves_now : (disk : Disk) (instants : List ℕ) (until : ℕ) (head : Track) (now : ℕ) (request : Request) (later : List Served)
    → decisions_from disk instants until head now (service disk head now request ∷ later)
    ≡ serves (service disk head now request)
    ∷ decisions_from disk instants until (last_track disk (service disk head now request)) (finish (service disk head now request)) later
unfolding decisions_from
serves_now disk instants until head now request later =
    ap (λ dwells. dwells ++ serves (service disk head now request)
    ∷ decisions_from disk instants until (last_track disk (service disk head now request)) (finish (service disk head now request)) later)
    (idle_none head now (filter (λ instant. nat_le instant now) instants) (filtered_below now instants))

-- the first of these services starts at an instant or later
abbrev pub StartsFrom : ℕ → List Served → Type 0
StartsFrom t [] = Unit {0}
StartsFrom t (served ∷ later) = t ≤ served.start

-- the head stays until the least instant to come, if no request starts before
pub stays_next : (disk : Disk) (instants : List ℕ) (until : ℕ) (head : Track) (now t : ℕ) (rest : List Served)
    → now < t → IsRising instants → IsAmong t instants → LieApart now t instants → StartsFrom t rest
    → decisions_from disk instants until head now rest ≡ idles (record { track = head; begin = now; end = t })
    ∷ decisions_from disk instants until head t rest
unfolding decisions_from
stays_next disk instants until head now t [] less rising there apart starts =
    ap (λ dwells. dwells ++ last_decision head (fold max now instants) until ∷ []) (idle_next head now t instants less rising there apart)
    ∙ ap (λ last. idles (record { track = head; begin = now; end = t })
    ∷ (idle_until head t instants ++ last_decision head last until ∷ [])) (last_after now t instants (omega arith) there)
stays_next disk instants until head now t (served ∷ later) less rising there apart starts =
    let by : ℕ → Bool = λ instant. nat_le instant served.start in
    ap (λ dwells. dwells ++ serves served ∷ decisions_from disk instants until (last_track disk served) (finish served) later)
    (idle_next head now t (filter by instants) less (rising_filter by instants rising)
    (one_filtered by t instants (let early : nat_le t served.start ≡ true = grind (arith, nat_tests) in early) there)
    (all_filter (λ x. (x ≤ now) ⊎ (t ≤ x)) by instants apart))

-- nothing is to come: the last decision
pub ends_now : (disk : Disk) (instants : List ℕ) (until : ℕ) (head : Track) (now : ℕ) → AllByRecursion (λ instant. instant ≤ now) instants
    → decisions_from disk instants until head now [] ≡ last_decision head now until ∷ []
unfolding decisions_from
ends_now disk instants until head now passed =
    ap (λ dwells. dwells ++ last_decision head (fold max now instants) until ∷ []) (idle_none head now instants passed)
    ∙ ap (λ last. last_decision head last until ∷ []) (last_passed now instants passed)

-- requests that have not arrived start as if the head had stayed until then
pub start_same : (now t : ℕ) (left : List Request) → now ≤ t → AreByArrival left → AllByRecursion (λ r. t ≤ r.arrival) left
    → 0 < length left → start_of now left ≡ start_of t left
start_same now t [] before order late some = absurd (omega arith)
start_same now t (r ∷ rs) before order late some = start_ahead now r rs order
    ∙ ((let same : max r.arrival now ≡ max r.arrival t = omega (arith, late.0) in same) ∙ sym (start_ahead t r rs order))

pub plain_same : (n : ℕ) (disk : Disk) (key : Key) (head : Track) (now t : ℕ) (left : List Request) → now ≤ t → AreByArrival left
    → AllByRecursion (λ r. t ≤ r.arrival) left
    → plain n disk key head now left ≡ plain n disk key head t left
unfolding plain
plain_same zero disk key head now t left before order late = refl
plain_same (suc n) disk key head now t [] before order late = refl
plain_same (suc n) disk key head now t (r ∷ rs) before order late =
    ap (λ start. unwrap_or (option_map (λ pick.
    let served = service disk head start pick.0 in
    served ∷ plain n disk key (last_track disk served) (finish served) pick.1) (first_ready (key disk head start) start (r ∷ rs))) [])
    (start_same now t (r ∷ rs) before order late (omega arith))

starts_on : (n : ℕ) (disk : Disk) (key : Key) (head : Track) (t start : ℕ) → t ≤ start → (pick : Option (Request × List Request))
    → StartsFrom t (unwrap_or (option_map (λ pick.
    let served = service disk head start pick.0 in
    served ∷ plain n disk key (last_track disk served) (finish served) pick.1) pick) [])
starts_on n disk key head t start late None = tt
starts_on n disk key head t start late (Some pick) = late

pub starts_from : (n : ℕ) (disk : Disk) (key : Key) (head : Track) (t : ℕ) (left : List Request)
    → StartsFrom t (plain n disk key head t left)
unfolding plain
starts_from zero disk key head t left = tt
starts_from (suc n) disk key head t left = starts_on n disk key head t (start_of t left) (start_after t left)
    (first_ready (key disk head (start_of t left)) (start_of t left) left)
