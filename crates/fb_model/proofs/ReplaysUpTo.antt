-- Up to an instant the plain replay depends only on the requests that have arrived by then.
use Rattle.fb_model.proofs.Words.{◌≡◌, ℕ, ◌≤◌, ◌<◌, max, List, [], ◌∷◌, ◌++◌, refl, ap, sym, subst, ◌∙◌, arith, true, false, Some, inl}
use Rattle.fb_model.proofs.Words.{inr, ◌||◌, filter, AllByRecursion, list_any, cases_Bool, cases_lt, nat_tests, filter-append}
use Rattle.fb_model.proofs.Words.{all_unmapped, all_weaker, all_filter, Track, Request, by_is, Disk, Key, Served, finish, last_track}
use Rattle.fb_model.proofs.Words.{service, has_arrived, first_ready, IsFirstReady, IsReadyAt}
use Rattle.std.proofs.Common.{true≢false}
use Rattle.fb_model.proofs.Picks.{one_pick}
use Rattle.fb_model.proofs.Replays.{IsTurn, AreTurns, Rises, turn_start, turns_end, all_from, rest_rises}

-- ---- those that have arrived by t

any_kept : (t u : ℕ) (requests : List Request) → u ≤ t
    → list_any (has_arrived u) (filter (has_arrived t) requests) ≡ list_any (has_arrived u) requests
any_kept t u [] h = refl
any_kept t u (request ∷ requests) h = elim (cases_Bool (has_arrived t request)) [
  | inl come ↦ rw come (ap (λ b. has_arrived u request || b) (any_kept t u requests h))
  | inr late ↦
      let later : has_arrived u request ≡ false = grind (arith, nat_tests) in
      rw (late, later) (any_kept t u requests h)
]

any_same : (t u : ℕ) (xs ys : List Request) → u ≤ t → filter (has_arrived t) xs ≡ filter (has_arrived t) ys
    → list_any (has_arrived u) xs ≡ true → list_any (has_arrived u) ys ≡ true
any_same t u xs ys h same some = sym (any_kept t u ys h) ∙ (ap (list_any (has_arrived u)) (sym same) ∙ (any_kept t u xs h ∙ some))

ready_kept : (t u : ℕ) (key : Request → ℕ) (left others : List Request) (pick : Request) → u ≤ t → IsFirstReady key u left pick others
    → IsFirstReady key u (filter (has_arrived t) left) pick (filter (has_arrived t) others)
ready_kept t u key left others pick h m =
    let come : has_arrived t pick ≡ true = let arrived = m.arrived in by_is pick.arrival t (omega arith) in
    let at_pick : filter (has_arrived t) (pick ∷ m.back) ≡ pick ∷ filter (has_arrived t) m.back = rw come refl in
    record {
      front = filter (has_arrived t) m.front;
      back = filter (has_arrived t) m.back;
      whole = ap (filter (has_arrived t)) m.whole
          ∙ (filter-append (has_arrived t) m.front (pick ∷ m.back) ∙ ap (λ xs. filter (has_arrived t) m.front ++ xs) at_pick);
      rest = ap (filter (has_arrived t)) m.rest ∙ filter-append (has_arrived t) m.front m.back;
      arrived = m.arrived;
      before = all_filter (λ request. request.arrival ≤ u → key pick < key request) (has_arrived t) m.front m.before;
      after = all_filter (λ request. request.arrival ≤ u → key pick ≤ key request) (has_arrived t) m.back m.after;
    }

same_pick : (x y : Request × List Request) → Some x ≡ Some y → x ≡ y
same_pick x y e = cc

-- ---- a turn of two replays that have the same requests up to t

record IsSameTurn (t : ℕ) (a b : Served) (others_a others_b : List Request) : Type 0 where
  pub served : a ≡ b
  pub others : filter (has_arrived t) others_a ≡ filter (has_arrived t) others_b

module _ (t : ℕ) (disk : Disk) (key : Key) where
  no_later : (now : ℕ) (left_a left_b : List Request) (a b : ℕ) → filter (has_arrived t) left_a ≡ filter (has_arrived t) left_b → a ≤ t
      → IsReadyAt now left_a a → IsReadyAt now left_b b → b ≤ a
  no_later now left_a left_b a b same h ready_a ready_b = ready_b.first a ready_a.from (any_same t a left_a left_b h same ready_a.arrived)

  turn_ready : (head : Track) (now : ℕ) (left others : List Request) (served : Served) → Rises left
      → IsTurn disk key head now left served others → IsReadyAt now left served.start
  turn_ready head now left others served rises turn =
      turn_start (key disk head served.start) now served.start left others served.request rises turn.start turn.pick

  same_turn : (head : Track) (now : ℕ) (left_a left_b others_a others_b : List Request) (a b : Served)
      → filter (has_arrived t) left_a ≡ filter (has_arrived t) left_b → Rises left_a → Rises left_b
      → IsTurn disk key head now left_a a others_a → IsTurn disk key head now left_b b others_b → a.start ≤ t
      → IsSameTurn t a b others_a others_b
  same_turn head now left_a left_b others_a others_b a b same rises_a rises_b turn_a turn_b h =
      let ready_a = turn_ready head now left_a others_a a rises_a turn_a in
      let ready_b = turn_ready head now left_b others_b b rises_b turn_b in
      let back = no_later now left_a left_b a.start b.start same h ready_a ready_b in
      let on = no_later now left_b left_a b.start a.start (sym same) (omega arith) ready_b ready_a in
      let start : a.start ≡ b.start = omega arith in
      let first_a = one_pick (key disk head a.start) a.start (filter (has_arrived t) left_a) (filter (has_arrived t) others_a) a.request
      (ready_kept t a.start (key disk head a.start) left_a others_a a.request h turn_a.pick) in
      let pick_b : IsFirstReady (key disk head a.start) a.start left_b b.request others_b =
      subst (λ u. IsFirstReady (key disk head u) u left_b b.request others_b) (sym start) turn_b.pick in
      let first_b = one_pick (key disk head a.start) a.start (filter (has_arrived t) left_b) (filter (has_arrived t) others_b) b.request
      (ready_kept t a.start (key disk head a.start) left_b others_b b.request h pick_b) in
      let picks = same_pick (a.request, filter (has_arrived t) others_a) (b.request, filter (has_arrived t) others_b) (sym first_a
      ∙ (ap (first_ready (key disk head a.start) a.start) same ∙ first_b)) in
      record {
        served = turn_a.passes ∙ (ap (service disk head a.start) (ap (λ pair. pair.0) picks)
            ∙ (ap (λ u. service disk head u b.request) start ∙ sym turn_b.passes));
        others = ap (λ pair. pair.1) picks;
      }

-- ---- all turns

-- a service that starts after t, and not before the others are done
abbrev pub StartsBehind : ℕ → ℕ → Served → Type 0
StartsBehind t done served = (t < served.start) × (done ≤ served.start)

-- services are the same while they start by t, and these are done before another one starts
pub data AlikeBy (t done : ℕ) : List Served → List Served → Type 0 where
  both : {served : Served} {xs ys : List Served} → served.start ≤ t → finish served ≤ done → AlikeBy t done xs ys
      → AlikeBy t done (served ∷ xs) (served ∷ ys)
  rest : {xs ys : List Served} → AllByRecursion (StartsBehind t done) xs → AllByRecursion (StartsBehind t done) ys → AlikeBy t done xs ys

pub record AreAlike (t now : ℕ) (xs ys : List Served) : Type 0 where
  pub done : ℕ
  pub from : t ≤ done
  pub after : now ≤ done
  pub alike : AlikeBy t done xs ys

module _ (t : ℕ) (disk : Disk) (key : Key) where
  -- no service starts before now
  pub none_before : (head : Track) (now : ℕ) (left : List Request) (replay : List Served) → AreTurns disk key head now left replay
      → AllByRecursion (λ (s : Served). now ≤ s.start) replay
  none_before head now left replay turns =
      all_unmapped (λ later. now ≤ later) (λ (s : Served). s.start) replay (all_from disk key head now now left replay turns (omega arith))

  all_behind : (head : Track) (now : ℕ) (left : List Request) (served : Served) (later : List Served)
      → AreTurns disk key head now left (served ∷ later) → t < served.start
      → AllByRecursion (StartsBehind t (max t now)) (served ∷ later)
  all_behind head now left served later turns h =
      let from = none_before head now left (served ∷ later) turns in
      let ends = turns_end disk key head now left turns.0 served turns.1 in (
        (h, omega (arith, from.0)),
        all_weaker (λ (s : Served). finish served ≤ s.start) (StartsBehind t (max t now))
            (λ s after. (omega (arith, after, ends, h), omega (arith, after, ends, from.0, h))) later
            (none_before (last_track disk served) (finish served) turns.0 later turns.2),
      )

  none_come : (head : Track) (now : ℕ) (left_a left_b : List Request) (b : Served) (later : List Served) → left_a ≡ []
      → filter (has_arrived t) left_a ≡ filter (has_arrived t) left_b → Rises left_b
      → AreTurns disk key head now left_b (b ∷ later) → t < b.start
  none_come head now left_a left_b b later none same rises turns = elim (cases_lt t b.start) [
    | inl less ↦ less
    | inr by ↦
        let some = any_same t b.start left_b left_a by (sym same) (turn_ready t disk key head now left_b turns.0 b rises turns.1).arrived in
        absurd (true≢false (sym some ∙ ap (list_any (has_arrived b.start)) none))
  ]

  pub alike_turns : (head : Track) (now : ℕ) (left_a left_b : List Request) (xs ys : List Served)
      → filter (has_arrived t) left_a ≡ filter (has_arrived t) left_b → Rises left_a → Rises left_b
      → AreTurns disk key head now left_a xs → AreTurns disk key head now left_b ys → AreAlike t now xs ys
  alike_turns head now left_a left_b [] [] same rises_a rises_b turns_a turns_b =
      record { done = max t now; from = omega arith; after = omega arith; alike = rest tt tt }
  alike_turns head now left_a left_b [] (b ∷ ys) same rises_a rises_b turns_a turns_b = record {
    done = max t now;
    from = omega arith;
    after = omega arith;
    alike = rest tt (all_behind head now left_b b ys turns_b (none_come head now left_a left_b b ys turns_a same rises_b turns_b));
  }
  alike_turns head now left_a left_b (a ∷ xs) [] same rises_a rises_b turns_a turns_b = record {
    done = max t now;
    from = omega arith;
    after = omega arith;
    alike = rest (all_behind head now left_a a xs turns_a (none_come head now left_b left_a a xs turns_b (sym same) rises_a turns_a)) tt;
  }
  alike_turns head now left_a left_b (a ∷ xs) (b ∷ ys) same rises_a rises_b turns_a turns_b = elim (cases_lt t a.start) [
    | inr by ↦
        let turn = same_turn t disk key head now left_a left_b turns_a.0 turns_b.0 a b same rises_a rises_b turns_a.1 turns_b.1 by in
        let later = alike_turns (last_track disk a) (finish a) turns_a.0 turns_b.0 xs ys turn.others
        (rest_rises (key disk head a.start) a.start left_a turns_a.0 a.request turns_a.1.pick rises_a)
        (rest_rises (key disk head b.start) b.start left_b turns_b.0 b.request turns_b.1.pick rises_b)
        turns_a.2 (subst (λ (s : Served). AreTurns disk key (last_track disk s) (finish s) turns_b.0 ys) (sym turn.served) turns_b.2) in
        let ends = turns_end disk key head now left_a turns_a.0 a turns_a.1 in
        let starts = none_before head now left_a (a ∷ xs) turns_a in
        record {
          done = later.done;
          from = later.from;
          after = omega (arith, later.after, ends, starts.0);
          alike = subst (λ s. AlikeBy t later.done (a ∷ xs) (s ∷ ys)) turn.served (both by later.after later.alike);
        }
    | inl less ↦ record {
      done = max t now;
      from = omega arith;
      after = omega arith;
      alike = rest (all_behind head now left_a a xs turns_a less) (all_behind head now left_b b ys turns_b (elim (cases_lt t b.start) [
        | inl later ↦ later
        | inr by ↦
            let turn =
            same_turn t disk key head now left_b left_a turns_b.0 turns_a.0 b a (sym same) rises_b rises_a turns_b.1 turns_a.1 by in
            absurd (omega (arith, ap (λ (s : Served). s.start) turn.served, by, less))
      ]));
    }
  ]
