-- Up to an instant the decisions depend only on the services that start by then, and on the arrivals and calls by then.
use Rattle.fb_model.proofs.Words.{◌≡◌, ◌⊎◌, ℕ, ◌<◌, ◌≤◌, max, List, [], ◌∷◌, ◌++◌, refl, ap, sym, subst, ◌∙◌, arith, true, false, inl, inr}
use Rattle.fb_model.proofs.Words.{nat_le, filter, nat_lt, if◌then◌else◌, AllByRecursion, fold, list_any, cases_Bool, cases_lt, nat_tests}
use Rattle.fb_model.proofs.Words.{by_later, is_after, is_by, all_dropped, all_weaker, not_none, same_first, same_rest, Track, Request}
use Rattle.fb_model.proofs.Words.{IsRising, kept_twice, none_kept, Disk, Key, Served, finish, last_track, has_arrived, start_of, Decision}
use Rattle.fb_model.proofs.Words.{serves, idles, ends, instant_of, end_of, idle_until, last_decision, decisions_from}
use Rattle.std.proofs.lemmas.List.Sums.{fold-append}
use Rattle.fb_units.proofs.Filtered.{rising_filter}
use Rattle.fb_model.proofs.Instants.{is_by_then, IsAmong, all_after}
use Rattle.fb_model.proofs.Passages.{IsServiceOf, are_services, turn_all}
use Rattle.fb_model.proofs.Replays.{AreTurns, start_from, turns_end}
use Rattle.fb_model.proofs.ReplaysUpTo.{StartsBehind, AlikeBy, both, rest}

-- a decision to serve has its service's passages
abbrev pub IsMade : Disk → Decision → Type 0
IsMade disk (serves served) = IsServiceOf disk served
IsMade disk (idles dwell) = Unit {0}
IsMade disk (ends now) = Unit {0}

-- it comes after t
pub record IsLater (t : ℕ) (disk : Disk) (decision : Decision) : Type 0 where
  pub from : t < instant_of decision
  pub upto : t < end_of decision
  pub made : IsMade disk decision

-- decisions are the same until t, but for the end of a dwell that is under way then
pub data AlikeDecisions (t done : ℕ) (disk : Disk) : List Decision → List Decision → Type 0 where
  same : {decision : Decision} {xs ys : List Decision} → instant_of decision ≤ t → end_of decision ≤ done → IsMade disk decision
      → AlikeDecisions t done disk xs ys → AlikeDecisions t done disk (decision ∷ xs) (decision ∷ ys)
  dwelling : {head : Track} {now until_a until_b : ℕ} {xs ys : List Decision} → now ≤ t → t < until_a → t < until_b
      → AllByRecursion (IsLater t disk) xs → AllByRecursion (IsLater t disk) ys
      → AlikeDecisions t done disk (idles (record { track = head; begin = now; end = until_a }) ∷ xs)
      (idles (record { track = head; begin = now; end = until_b }) ∷ ys)
  later : {xs ys : List Decision} → AllByRecursion (IsLater t disk) xs → AllByRecursion (IsLater t disk) ys
      → AlikeDecisions t done disk xs ys

pub greatest_from : (now : ℕ) (instants : List ℕ) → now ≤ fold max now instants
greatest_from now [] = omega arith
greatest_from now (x ∷ instants) = let rest = greatest_from (max now x) instants in omega arith

-- the head idles up to an instant that is among those that it idles up to
reached : (now t : ℕ) (instants : List ℕ) → IsAmong t instants → t ≤ fold max now (filter (is_by_then t) instants)
reached now t [] there = absurd there
reached now t (x ∷ instants) there = elim (cases_Bool (nat_le x t)) [
  | inl by ↦ rw by (elim there [
    | inl here ↦ let from = greatest_from (max now x) (filter (is_by_then t) instants) in omega (arith, from, here)
    | inr behind ↦ reached (max now x) t instants behind
  ])
  | inr after ↦ rw after (elim there [
    | inl here ↦ absurd (let h = is_after x t after in omega (arith, h, here))
    | inr behind ↦ reached now t instants behind
  ])
]

-- a service starts now, or when a request arrives
pub start_among : (now : ℕ) (left : List Request) (instants : List ℕ) → AllByRecursion (λ (r : Request). IsAmong r.arrival instants) left
    → (start_of now left ≡ now) ⊎ IsAmong (start_of now left) instants
start_among now [] instants all = inl refl
start_among now (request ∷ requests) instants all = elim (cases_Bool (list_any (has_arrived now) (request ∷ requests))) [
  | inl some ↦ inl (ap (λ b. if b then now else request.arrival) some)
  | inr none ↦ inr (subst (λ u. IsAmong u instants) (sym (ap (λ b. if b then now else request.arrival) none)) all.0)
]

-- ---- after t

module _ (t : ℕ) (disk : Disk) where
  later_idle : (head : Track) (now : ℕ) (instants : List ℕ) (more : List Decision) → t < now → AllByRecursion (IsLater t disk) more
      → AllByRecursion (IsLater t disk) (idle_until head now instants ++ more)
  later_idle head now [] more h all = all
  later_idle head now (x ∷ instants) more h all = elim (cases_Bool (nat_lt now x)) [
    | inl before ↦
        let less : now < x = grind (arith, nat_tests) in
        rw before (record { from = h; upto = omega arith; made = tt }, later_idle head x instants more (omega arith) all)
    | inr passed ↦ rw passed (later_idle head now instants more h all)
  ]

  later_last : (head : Track) (now until : ℕ) → t < now → IsLater t disk (last_decision head now until)
  later_last head now until h = elim (cases_Bool (nat_lt now until)) [
    | inl before ↦
        let less : now < until = grind (arith, nat_tests) in
        rw before (record { from = h; upto = omega arith; made = tt })
    | inr passed ↦ rw passed (record { from = h; upto = h; made = tt })
  ]

  all_later : (key : Key) (instants : List ℕ) (until : ℕ) (head : Track) (now : ℕ) (left : List Request) (replay : List Served)
      → AreTurns disk key head now left replay → t < now
      → AllByRecursion (IsLater t disk) (decisions_from disk instants until head now replay)
  unfolding decisions_from
  all_later key instants until head now left [] turns h =
      later_idle head now instants (last_decision head (fold max now instants) until ∷ []) h
      (later_last head (fold max now instants) until (let from = greatest_from now instants in omega arith), tt)
  all_later key instants until head now left (served ∷ replay) turns h =
      let ends = turns_end disk key head now left turns.0 served turns.1 in
      let from = start_from now left in
      let starts = turns.1.start in
      later_idle head now (filter (λ instant. nat_le instant served.start) instants)
      (serves served ∷ decisions_from disk instants until (last_track disk served) (finish served) replay) h (
        record {
          from = omega (arith, from, starts, h);
          upto = omega (arith, from, starts, ends, h);
          made = (are_services disk key head now left (served ∷ replay) turns).0;
        },
        all_later key instants until (last_track disk served) (finish served) turns.0 replay turns.2 (omega (arith, from, starts, ends, h)),
      )

  -- a service that starts after t, and what comes after it
  serves_later : (key : Key) (instants : List ℕ) (until : ℕ) (head : Track) (now : ℕ) (left : List Request) (served : Served)
      (replay : List Served) → AreTurns disk key head now left (served ∷ replay) → t < served.start
      → AllByRecursion (IsLater t disk) (serves served ∷ decisions_from disk instants until (last_track disk served) (finish served) replay)
  serves_later key instants until head now left served replay turns h =
      let ends = turns_end disk key head now left turns.0 served turns.1 in (
        record { from = h; upto = omega (arith, ends, h); made = (are_services disk key head now left (served ∷ replay) turns).0 },
        all_later key instants until (last_track disk served) (finish served) turns.0 replay turns.2 (omega (arith, ends, h)),
      )

-- ---- at t

-- a dwell that is under way at t, and what comes after it
record Opens (t : ℕ) (disk : Disk) (head : Track) (now : ℕ) (ds : List Decision) : Type 0 where
  pub until : ℕ
  pub more : List Decision
  pub is : ds ≡ idles (record { track = head; begin = now; end = until }) ∷ more
  pub past : t < until
  pub after : AllByRecursion (IsLater t disk) more

-- what comes once the head has idled up to an instant
record Resumes (t : ℕ) (disk : Disk) (head : Track) (at : ℕ) (ds : List Decision) : Type 0 where
  pub late : t < at → AllByRecursion (IsLater t disk) ds
  pub opens : at ≤ t → Opens t disk head at ds

module _ (t done : ℕ) (disk : Disk) (since : t ≤ done) where
  opens_at : (head : Track) (now : ℕ) (instants : List ℕ) (ds : List Decision) → now ≤ t
      → AllByRecursion (λ instant. is_by_then t instant ≡ false) instants → Resumes t disk head (fold max now instants) ds
      → Opens t disk head now (idle_until head now instants ++ ds)
  opens_at head now [] ds h all resumes = resumes.opens h
  opens_at head now (x ∷ instants) ds h all resumes =
      let after : t < x = is_after x t all.0 in
      let before : nat_lt now x ≡ true = grind (arith, nat_tests) in
      record {
        until = x;
        more = idle_until head x instants ++ ds;
        is = rw before refl;
        past = after;
        after = later_idle t disk head x instants ds after (resumes.late (let from = greatest_from (max now x) instants in omega arith));
      }

  both_open : (head : Track) (now : ℕ) (xs ys : List Decision) → now ≤ t → Opens t disk head now xs → Opens t disk head now ys
      → AlikeDecisions t done disk xs ys
  both_open head now xs ys h a b =
      subst (λ ds. AlikeDecisions t done disk ds ys) (sym a.is)
      (subst (λ ds. AlikeDecisions t done disk (idles (record { track = head; begin = now; end = a.until }) ∷ a.more) ds) (sym b.is)
      (dwelling h a.past b.past a.after b.after))

  same_idle : (head : Track) (now : ℕ) (instants : List ℕ) (xs ys : List Decision) → now ≤ t → AllByRecursion (λ x. x ≤ t) instants
      → AlikeDecisions t done disk xs ys
      → AlikeDecisions t done disk (idle_until head now instants ++ xs) (idle_until head now instants ++ ys)
  same_idle head now [] xs ys h all alike = alike
  same_idle head now (x ∷ instants) xs ys h all alike = elim (cases_Bool (nat_lt now x)) [
    | inl before ↦ rw before (same {decision = idles (record { track = head; begin = now; end = x })} h (let by = all.0 in omega arith) tt
        (same_idle head x instants xs ys all.0 all.1 alike))
    | inr passed ↦ rw passed (same_idle head now instants xs ys h all.1 alike)
  ]

  one_more : (head : Track) (now x : ℕ) (front_a front_b : List Decision) (xs ys : List ℕ) → x ≤ t → now ≤ t
      → Resumes t disk head (fold max now (x ∷ xs)) front_a → Resumes t disk head (fold max now (x ∷ ys)) front_b
      → ((now : ℕ) → now ≤ t → Resumes t disk head (fold max now xs) front_a → Resumes t disk head (fold max now ys) front_b
      → AlikeDecisions t done disk (idle_until head now xs ++ front_a) (idle_until head now ys ++ front_b))
      → AlikeDecisions t done disk (idle_until head now (x ∷ xs) ++ front_a) (idle_until head now (x ∷ ys) ++ front_b)
  one_more head now x front_a front_b xs ys by h a b go_on = elim (cases_Bool (nat_lt now x)) [
    | inl before ↦
        let on : max now x ≡ x = let less : now < x = grind (arith, nat_tests) in omega arith in
        rw before (same {decision = idles (record { track = head; begin = now; end = x })} h (omega arith) tt (go_on x by (subst
        (λ at. Resumes t disk head (fold max at xs) front_a) on a) (subst (λ at. Resumes t disk head (fold max at ys) front_b) on b)))
    | inr passed ↦
        let on : max now x ≡ now = let less : x ≤ now = grind (arith, nat_tests) in omega arith in
        rw passed (go_on now h (subst (λ at. Resumes t disk head (fold max at xs) front_a) on a)
        (subst (λ at. Resumes t disk head (fold max at ys) front_b) on b))
  ]

  tails_alike : (head : Track) (now : ℕ) (xs ys : List ℕ) (front_a front_b : List Decision) → now ≤ t → IsRising xs → IsRising ys
      → filter (is_by_then t) xs ≡ filter (is_by_then t) ys
      → Resumes t disk head (fold max now xs) front_a → Resumes t disk head (fold max now ys) front_b
      → AlikeDecisions t done disk (idle_until head now xs ++ front_a) (idle_until head now ys ++ front_b)
  tails_alike head now [] ys front_a front_b h rises_x rises_y e a b =
      both_open head now front_a (idle_until head now ys ++ front_b) h (a.opens h)
      (opens_at head now ys front_b h (all_dropped (is_by_then t) ys (sym e)) b)
  tails_alike head now (x ∷ xs) [] front_a front_b h rises_x rises_y e a b =
      both_open head now (idle_until head now (x ∷ xs) ++ front_a) front_b h
      (opens_at head now (x ∷ xs) front_a h (all_dropped (is_by_then t) (x ∷ xs) e) a) (b.opens h)
  tails_alike head now (x ∷ xs) (y ∷ ys) front_a front_b h rises_x rises_y e a b = elim (cases_Bool (is_by_then t x)) [
    | inl by_x ↦
        let kept : x ∷ filter (is_by_then t) xs ≡ filter (is_by_then t) (y ∷ ys) = rw by_x at e in
        elim (cases_Bool (is_by_then t y)) [
          | inl by_y ↦
              let both : x ∷ filter (is_by_then t) xs ≡ y ∷ filter (is_by_then t) ys = rw by_y at kept in
              let first = same_first x y (filter (is_by_then t) xs) (filter (is_by_then t) ys) both in
              subst (λ z. AlikeDecisions t done disk (idle_until head now (x ∷ xs) ++ front_a) (idle_until head now (z ∷ ys) ++ front_b))
              first
              (one_more head now x front_a front_b xs ys (is_by x t by_x) h a
              (subst (λ z. Resumes t disk head (fold max now (z ∷ ys)) front_b) (sym first) b)
              (λ now h a b. tails_alike head now xs ys front_a front_b h rises_x.1 rises_y.1
              (same_rest x y (filter (is_by_then t) xs) (filter (is_by_then t) ys) both) a b))
          | inr after_y ↦ absurd (not_none x (filter (is_by_then t) xs)
              (kept ∙ none_kept (is_by_then t) (y ∷ ys) (after_y, all_after t y ys (is_after y t after_y) rises_y.0)))
        ]
    | inr after_x ↦
        let none = none_kept (is_by_then t) (x ∷ xs) (after_x, all_after t x xs (is_after x t after_x) rises_x.0) in
        both_open head now (idle_until head now (x ∷ xs) ++ front_a) (idle_until head now (y ∷ ys) ++ front_b) h
        (opens_at head now (x ∷ xs) front_a h (all_dropped (is_by_then t) (x ∷ xs) none) a)
        (opens_at head now (y ∷ ys) front_b h (all_dropped (is_by_then t) (y ∷ ys) (sym e ∙ none)) b)
  ]

-- decisions from an instant by t on, of which the next service starts after t
record IsTail (t : ℕ) (disk : Disk) (head : Track) (now : ℕ) (instants : List ℕ) (ds : List Decision) : Type 0 where
  pub some : List ℕ
  pub front : List Decision
  pub is : ds ≡ idle_until head now some ++ front
  pub rises : IsRising some
  pub kept : filter (is_by_then t) some ≡ filter (is_by_then t) instants
  pub resumes : Resumes t disk head (fold max now some) front

-- when the last of these decisions ends
abbrev pub end_from : ℕ → List Decision → ℕ
end_from end ds = fold (λ end decision. end_of decision) end ds

last_open : (t : ℕ) (disk : Disk) (head : Track) (at until : ℕ) → at ≤ t → t < end_of (last_decision head at until)
    → Opens t disk head at (last_decision head at until ∷ [])
last_open t disk head at until h long = elim (cases_Bool (nat_lt at until)) [
  | inl before ↦
      let past : t < until = rw before at long in
      record { until = until; more = []; is = rw before refl; past = past; after = tt }
  | inr passed ↦ absurd (let past : t < at = rw passed at long in omega arith)
]

module _ (t : ℕ) (disk : Disk) (key : Key) (instants : List ℕ) (until : ℕ) (rises : IsRising instants) where
  tail_of : (head : Track) (now : ℕ) (left : List Request) (replay : List Served) → AreTurns disk key head now left replay
      → AllByRecursion (λ (s : Served). t < s.start) replay
      → AllByRecursion (λ (r : Request). IsAmong r.arrival instants) left → now ≤ t → (z : ℕ)
      → t < end_from z (decisions_from disk instants until head now replay)
      → IsTail t disk head now instants (decisions_from disk instants until head now replay)
  unfolding decisions_from
  tail_of head now left [] turns behind among h z long =
      let last = last_decision head (fold max now instants) until in
      record {
        some = instants;
        front = last ∷ [];
        is = refl;
        rises = rises;
        kept = refl;
        resumes = record {
          late = λ after. (later_last t disk head (fold max now instants) until after, tt);
          opens = λ by. last_open t disk head (fold max now instants) until by (subst (λ e. t < e)
              (fold-append (λ (end : ℕ) (decision : Decision). end_of decision) z (idle_until head now instants) (last ∷ [])) long);
        };
      }
  tail_of head now left (served ∷ replay) turns behind among h z long =
      let starts = turns.1.start in
      record {
        some = filter (is_by_then served.start) instants;
        front = serves served ∷ decisions_from disk instants until (last_track disk served) (finish served) replay;
        is = refl;
        rises = rising_filter (is_by_then served.start) instants rises;
        kept = let less = behind.0 in
            kept_twice (is_by_then t) (is_by_then served.start) (λ x by. by_later t served.start x (omega arith) by) instants;
        resumes = record {
          late = λ after. serves_later t disk key instants until head now left served replay turns behind.0;
          opens = λ by. absurd (elim (start_among now left instants among) [
            | inl at_once ↦ omega (arith, starts, at_once, h, behind.0)
            | inr waits ↦
                let come = reached now served.start instants (subst (λ u. IsAmong u instants) (sym starts) waits) in
                omega (arith, come, by, behind.0)
          ]);
        };
      }

-- ---- all of them

module _ (t done : ℕ) (disk : Disk) (key : Key) (since : t ≤ done) (instants_a instants_b : List ℕ) (until_a until_b : ℕ)
    (rises_a : IsRising instants_a) (rises_b : IsRising instants_b)
    (come : filter (is_by_then t) instants_a ≡ filter (is_by_then t) instants_b) where
  pub alike_decisions : (head : Track) (now : ℕ) (left_a left_b : List Request) {xs ys : List Served} (z_a z_b : ℕ) → AlikeBy t done xs ys
      → AreTurns disk key head now left_a xs → AreTurns disk key head now left_b ys
      → AllByRecursion (λ (r : Request). IsAmong r.arrival instants_a) left_a
      → AllByRecursion (λ (r : Request). IsAmong r.arrival instants_b) left_b
      → t < end_from z_a (decisions_from disk instants_a until_a head now xs)
      → t < end_from z_b (decisions_from disk instants_b until_b head now ys)
      → AlikeDecisions t done disk (decisions_from disk instants_a until_a head now xs) (decisions_from disk instants_b until_b head now ys)
  unfolding decisions_from
  alike_decisions head now left_a left_b z_a z_b (both {served = served} {xs = xs} {ys = ys} start ended alike) turns_a turns_b among_a among_b long_a long_b =
      let f = λ (end : ℕ) (decision : Decision). end_of decision in
      let front_a = filter (is_by_then served.start) instants_a in
      let front_b = filter (is_by_then served.start) instants_b in
      let twice =
      λ (instants : List ℕ). kept_twice (is_by_then served.start) (is_by_then t) (λ x by. by_later served.start t x start by) instants in
      let fronts : front_a ≡ front_b = sym (twice instants_a) ∙ (ap (filter (is_by_then served.start)) come ∙ twice instants_b) in
      let from = start_from now left_a in
      let starts = turns_a.1.start in
      let rest_a = decisions_from disk instants_a until_a (last_track disk served) (finish served) xs in
      let rest_b = decisions_from disk instants_b until_b (last_track disk served) (finish served) ys in
      let alike_rest =
      alike_decisions (last_track disk served) (finish served) turns_a.0 turns_b.0 (finish served) (finish served) alike turns_a.2 turns_b.2
      (turn_all (λ (r : Request). IsAmong r.arrival instants_a) disk key head now left_a turns_a.0 served turns_a.1 among_a).1
      (turn_all (λ (r : Request). IsAmong r.arrival instants_b) disk key head now left_b turns_b.0 served turns_b.1 among_b).1
      (subst (λ e. t < e) (fold-append f z_a (idle_until head now front_a) (serves served ∷ rest_a)) long_a)
      (subst (λ e. t < e) (fold-append f z_b (idle_until head now front_b) (serves served ∷ rest_b)) long_b) in
      subst (λ front. AlikeDecisions t done disk (idle_until head now front_a ++ serves served ∷ rest_a)
      (idle_until head now front ++ serves served ∷ rest_b)) fronts
      (same_idle t done disk since head now front_a (serves served ∷ rest_a) (serves served ∷ rest_b) (omega (arith, from, starts, start))
      (below front_a served.start instants_a refl start)
      (same start ended (are_services disk key head now left_a (served ∷ xs) turns_a).0 alike_rest))
    where
      below : (front : List ℕ) (u : ℕ) (instants : List ℕ) → front ≡ filter (is_by_then u) instants → u ≤ t
          → AllByRecursion (λ x. x ≤ t) front
      below front u instants e h = subst (AllByRecursion (λ x. x ≤ t)) (sym e) (each instants)
        where
          each : (xs : List ℕ) → AllByRecursion (λ x. x ≤ t) (filter (is_by_then u) xs)
          each [] = tt
          each (x ∷ xs) = elim (cases_Bool (is_by_then u x)) [
            | inl by ↦ rw by (let le = is_by x u by in omega arith, each xs)
            | inr after ↦ rw after (each xs)
          ]
  alike_decisions head now left_a left_b z_a z_b (rest {xs = xs} {ys = ys} behind_x behind_y) turns_a turns_b among_a among_b long_a long_b = elim (cases_lt t now) [
    | inl passed ↦ later (all_later t disk key instants_a until_a head now left_a xs turns_a passed)
        (all_later t disk key instants_b until_b head now left_b ys turns_b passed)
    | inr here ↦
        let starts = λ (served : Served) (h : StartsBehind t done served). h.0 in
        let a = tail_of t disk key instants_a until_a rises_a head now left_a xs turns_a (all_weaker (StartsBehind t done)
        (λ (s : Served). t < s.start) starts xs behind_x) among_a here z_a long_a in
        let b = tail_of t disk key instants_b until_b rises_b head now left_b ys turns_b (all_weaker (StartsBehind t done)
        (λ (s : Served). t < s.start) starts ys behind_y) among_b here z_b long_b in
        subst (λ ds. AlikeDecisions t done disk ds (decisions_from disk instants_b until_b head now ys)) (sym a.is)
        (subst (λ ds. AlikeDecisions t done disk (idle_until head now a.some ++ a.front) ds) (sym b.is)
        (tails_alike t done disk since head now a.some b.some a.front b.front here a.rises b.rises
        (a.kept ∙ (come ∙ sym b.kept)) a.resumes b.resumes))
  ]
