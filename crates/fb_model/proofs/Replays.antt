-- The plain replay serves each request once, in turn, and is the only one that follows the rules.
use Rattle.fb_model.proofs.Words.{◌≡◌, ℕ, zero, suc, ◌+◌, ◌<◌, ◌≤◌, List, [], ◌∷◌, ◌++◌, length, map, refl, ap, sym, subst, ◌∙◌, arith}
use Rattle.fb_model.proofs.Words.{Bool, true, false, Option, Some, None, inl, inr, nat_le, IsPermutation, ◌||◌, if◌then◌else◌, unwrap_or}
use Rattle.fb_model.proofs.Words.{option_map, AllByRecursion, list_any, cases_Bool, cases_lt, nat_tests, length-append, IsPermutation-refl}
use Rattle.fb_model.proofs.Words.{IsPermutation-trans, IsPermutation-cons, all_map, Track, Request, IsRising, track_at, pos, Disk}
use Rattle.fb_model.proofs.Words.{begin_from, passages, passage_from, finish_of, Key, Served, finish, last_track, service, has_arrived}
use Rattle.fb_model.proofs.Words.{first_ready, start_of, plain, first_track, plain_replay, ForeRow, Inputs, requests, served, Medium}
use Rattle.fb_model.proofs.Words.{medium_of, fore_row, fore_rows, IsFirstReady, IsReadyPickOf, IsReadyAt}
use Rattle.std.proofs.Common.{true≢false}
use Rattle.std.proofs.lemmas.List.Sorted.{IsPermutation-middle}
use Rattle.fb_model.specs.Laws.{AreOneByOne, HaveOneRow, AreInTurn, ServesEachOnce, IsServedNext}
use Rattle.fb_model.specs.Laws.{FollowsRules, IsOnlyReplay}
use Rattle.fb_model.proofs.Picks.{ready_pick, one_pick}

-- ---- when the next service starts

pub late_or : (now arrival : ℕ) (c : Bool) → (nat_le arrival now || c) ≡ false → now < arrival
late_or now arrival c h = elim (cases_Bool (nat_le arrival now)) [
  | inl here ↦ absurd (true≢false (sym (ap (λ b. b || c) here) ∙ h))
  | inr late ↦ grind (arith, nat_tests)
]

pub start_from : (now : ℕ) (left : List Request) → now ≤ start_of now left
start_from now [] = omega arith
start_from now (request ∷ requests) = elim (cases_Bool (list_any (has_arrived now) (request ∷ requests))) [
  | inl some ↦ subst (λ b. now ≤ (if b then now else request.arrival)) (sym some) (let same : now ≤ now = omega arith in same)
  | inr none ↦ subst (λ b. now ≤ (if b then now else request.arrival)) (sym none) (let late =
      late_or now request.arrival (list_any (has_arrived now) requests) none in let from : now ≤ request.arrival = omega arith in from)
]

now_arrived : (request : Request) (requests : List Request) → list_any (has_arrived request.arrival) (request ∷ requests) ≡ true
now_arrived request requests = ap (λ b. b || list_any (has_arrived request.arrival) requests)
    (let here : nat_le request.arrival request.arrival ≡ true = grind (arith, nat_tests) in here)

start_arrived : (now : ℕ) (request : Request) (requests : List Request)
    → list_any (has_arrived (start_of now (request ∷ requests))) (request ∷ requests) ≡ true
start_arrived now request requests = elim (cases_Bool (list_any (has_arrived now) (request ∷ requests))) [
  | inl some ↦ subst (λ b. list_any (has_arrived (if b then now else request.arrival)) (request ∷ requests) ≡ true) (sym some) some
  | inr none ↦ subst (λ b. list_any (has_arrived (if b then now else request.arrival)) (request ∷ requests) ≡ true) (sym none)
      (now_arrived request requests)
]

-- none has arrived
pub none_arrived : (t : ℕ) (requests : List Request) → AllByRecursion (λ request. t < request.arrival) requests
    → list_any (has_arrived t) requests ≡ false
none_arrived t [] late = refl
none_arrived t (request ∷ requests) late =
    let here : nat_le request.arrival t ≡ false = let h = late.0 in grind (arith, nat_tests) in
    ap (λ b. b || list_any (has_arrived t) requests) here ∙ none_arrived t requests late.1

later_arrivals : (t : ℕ) (first : ℕ) (requests : List Request)
    → t < first → AllByRecursion (λ later. first ≤ later) (map (λ request. request.arrival) requests)
    → AllByRecursion (λ request. t < request.arrival) requests
later_arrivals t first [] h all = tt
later_arrivals t first (request ∷ requests) h all = (let one = all.0 in omega arith, later_arrivals t first requests h all.1)

start_least : (now : ℕ) (left : List Request) → IsRising (map (λ request. request.arrival) left) → (other : ℕ) → now ≤ other
    → list_any (has_arrived other) left ≡ true → start_of now left ≤ other
start_least now [] rising other from some = from
start_least now (request ∷ requests) rising other from some = elim (cases_Bool (list_any (has_arrived now) (request ∷ requests))) [
  | inl here ↦ subst (λ b. (if b then now else request.arrival) ≤ other) (sym here) from
  | inr none ↦ subst (λ b. (if b then now else request.arrival) ≤ other) (sym none) (elim (cases_lt other request.arrival) [
    | inl less ↦ absurd (true≢false (sym some
        ∙ none_arrived other (request ∷ requests) (less, later_arrivals other request.arrival requests less rising.0)))
    | inr more ↦ more
  ])
]

start_is : (now : ℕ) (request : Request) (requests : List Request) → IsRising (map (λ request. request.arrival) (request ∷ requests))
    → IsReadyAt now (request ∷ requests) (start_of now (request ∷ requests))
start_is now request requests rising = record {
  from = start_from now (request ∷ requests);
  arrived = start_arrived now request requests;
  first = start_least now (request ∷ requests) rising;
}

-- ---- the turns of the definition

-- what it does at each turn
pub record IsTurn (disk : Disk) (key : Key) (head : Track) (now : ℕ) (left : List Request) (served : Served)
    (others : List Request) : Type 0 where
  pub start : served.start ≡ start_of now left
  pub pick : IsFirstReady (key disk head served.start) served.start left served.request others
  pub passes : served ≡ service disk head served.start served.request

abbrev pub AreTurns : Disk → Key → Track → ℕ → List Request → List Served → Type 0
AreTurns disk key head now left [] = left ≡ []
AreTurns disk key head now left (served ∷ later) =
    (others : List Request) × IsTurn disk key head now left served others
    × AreTurns disk key (last_track disk served) (finish served) others later

shorter : (left front back others : List Request) (pick : Request) (n : ℕ) → left ≡ front ++ pick ∷ back → others ≡ front ++ back
    → length left ≤ suc n → length others ≤ n
shorter left front back others pick n whole rest h =
    omega (arith, ap length whole, ap length rest, length-append front (pick ∷ back), length-append front back)

abbrev go_on : ℕ → Disk → Key → Track → ℕ → Request × List Request → List Served
go_on n disk key head start pick = service disk head start pick.0
    ∷ plain n disk key (last_track disk (service disk head start pick.0)) (finish (service disk head start pick.0)) pick.1

none_left : (now : ℕ) (left : List Request) → AllByRecursion (λ request. start_of now left < request.arrival) left → left ≡ []
none_left now [] late = refl
none_left now (request ∷ requests) late = absurd
    (true≢false (sym (start_arrived now request requests) ∙ none_arrived (start_of now (request ∷ requests)) (request ∷ requests) late))

-- one turn, where the others are served so
one_turn : (n : ℕ) (disk : Disk) (key : Key) (head : Track) (now : ℕ) (left : List Request) (pick : Option (Request × List Request))
    → length left ≤ suc n
    → ((head : Track) (now : ℕ) (others : List Request) → length others ≤ n
    → AreTurns disk key head now others (plain n disk key head now others))
    → IsReadyPickOf (key disk head (start_of now left)) (start_of now left) left pick
    → AreTurns disk key head now left (unwrap_or (option_map (go_on n disk key head (start_of now left)) pick) [])
one_turn n disk key head now left None h rest late = none_left now left late
one_turn n disk key head now left (Some pick) h rest m = (
  pick.1,
  record { start = refl; pick = m; passes = refl },
  rest (last_track disk (service disk head (start_of now left) pick.0)) (finish (service disk head (start_of now left) pick.0)) pick.1
      (shorter left m.front m.back pick.1 pick.0 n m.whole m.rest h),
)

pub plain_turns : (n : ℕ) (disk : Disk) (key : Key) (head : Track) (now : ℕ) (left : List Request) → length left ≤ n
    → AreTurns disk key head now left (plain n disk key head now left)
unfolding plain
plain_turns zero disk key head now [] h = refl
plain_turns zero disk key head now (request ∷ requests) h = absurd (omega arith)
plain_turns (suc n) disk key head now left h =
    one_turn n disk key head now left (first_ready (key disk head (start_of now left)) (start_of now left) left) h
    (λ head now others few. plain_turns n disk key head now others few)
    (ready_pick (key disk head (start_of now left)) (start_of now left) left)

-- ---- what follows of turns

turns_once : (disk : Disk) (key : Key) (head : Track) (now : ℕ) (left : List Request) (replay : List Served)
    → AreTurns disk key head now left replay → IsPermutation left (map (λ served. served.request) replay)
turns_once disk key head now left [] turns = subst (λ xs. IsPermutation xs []) (sym turns) (IsPermutation-refl [])
turns_once disk key head now left (served ∷ later) turns =
    let others = turns.0 in
    let m = turns.1.pick in
    let rest = turns_once disk key (last_track disk served) (finish served) others later turns.2 in
    subst (λ xs. IsPermutation xs (served.request ∷ map (λ served. served.request) later)) (sym m.whole)
    (IsPermutation-trans (m.front ++ served.request ∷ m.back) (served.request ∷ (m.front ++ m.back))
    (served.request ∷ map (λ served. served.request) later)
    (IsPermutation-middle m.front served.request m.back)
    (IsPermutation-cons served.request (m.front ++ m.back) (map (λ served. served.request) later)
    (subst (λ xs. IsPermutation xs (map (λ served. served.request) later)) m.rest rest)))

turns_arrived : (disk : Disk) (key : Key) (head : Track) (now : ℕ) (left : List Request) (replay : List Served)
    → AreTurns disk key head now left replay → AllByRecursion (λ (served : Served). served.request.arrival ≤ served.start) replay
turns_arrived disk key head now left [] turns = tt
turns_arrived disk key head now left (served ∷ later) turns =
    (turns.1.pick.arrived, turns_arrived disk key (last_track disk served) (finish served) turns.0 later turns.2)

turns_in_turn : (disk : Disk) (key : Key) (head : Track) (now : ℕ) (left : List Request) (replay : List Served)
    → AreTurns disk key head now left replay → AreInTurn disk head now replay
turns_in_turn disk key head now left [] turns = tt
turns_in_turn disk key head now left (served ∷ later) turns = (
  ap (λ s. s.source) turns.1.passes,
  omega (arith, start_from now left, turns.1.start),
  turns_in_turn disk key (last_track disk served) (finish served) turns.0 later turns.2,
)

-- a service doesn't end before it starts
pub finish_from : (disk : Disk) (source : Track) (now : ℕ) (write : Bool) (lbn n : ℕ)
    → now ≤ finish_of now (passages disk source now write lbn n)
unfolding passages begin_from
finish_from disk source now write lbn zero = omega arith
finish_from disk source now write lbn (suc n) =
    let passage = passage_from disk.map lbn (now + pos disk.mechanism source (track_at disk.map lbn) write) in
    let later = finish_from disk (track_at disk.map lbn) passage.end write (lbn + 1) n in omega arith

pub turns_end : (disk : Disk) (key : Key) (head : Track) (now : ℕ) (left others : List Request) (served : Served)
    → IsTurn disk key head now left served others → served.start ≤ finish served
turns_end disk key head now left others served turn =
    subst (λ ps. served.start ≤ finish_of served.start ps) (sym (ap (λ s. s.passages) turn.passes))
    (finish_from disk head served.start served.request.write served.request.lbn served.request.count)

pub all_from : (disk : Disk) (key : Key) (head : Track) (t now : ℕ) (left : List Request) (replay : List Served)
    → AreTurns disk key head now left replay → t ≤ now
    → AllByRecursion (λ later. t ≤ later) (map (λ (served : Served). served.start) replay)
all_from disk key head t now left [] turns h = tt
all_from disk key head t now left (served ∷ later) turns h = (
  omega (arith, start_from now left, turns.1.start),
  all_from disk key (last_track disk served) t (finish served) turns.0 later turns.2
      (omega (arith, start_from now left, turns.1.start, turns_end disk key head now left turns.0 served turns.1)),
)

turns_ascend : (disk : Disk) (key : Key) (head : Track) (now : ℕ) (left : List Request) (replay : List Served)
    → AreTurns disk key head now left replay → IsRising (map (λ (served : Served). served.start) replay)
turns_ascend disk key head now left [] turns = tt
turns_ascend disk key head now left (served ∷ later) turns = (
  all_from disk key (last_track disk served) served.start (finish served) turns.0 later turns.2
      (turns_end disk key head now left turns.0 served turns.1),
  turns_ascend disk key (last_track disk served) (finish served) turns.0 later turns.2,
)

pub each_once : (disk : Disk) (key : Key) (requests : List Request) → ServesEachOnce disk requests (plain_replay disk key requests)
each_once disk key requests =
    let turns = plain_turns (length requests) disk key first_track 0 requests (omega arith) in
    record {
      once = turns_once disk key first_track 0 requests (plain_replay disk key requests) turns;
      arrived = turns_arrived disk key first_track 0 requests (plain_replay disk key requests) turns;
      in_turn = turns_in_turn disk key first_track 0 requests (plain_replay disk key requests) turns;
      ascend = turns_ascend disk key first_track 0 requests (plain_replay disk key requests) turns;
    }

-- ---- the rules

all_without : (P : ℕ → Type 0) (front back : List Request) (pick : Request)
    → AllByRecursion P (map (λ request. request.arrival) (front ++ pick ∷ back))
    → AllByRecursion P (map (λ request. request.arrival) (front ++ back))
all_without P [] back pick all = all.1
all_without P (request ∷ front) back pick all = (all.0, all_without P front back pick all.1)

rising_without : (front back : List Request) (pick : Request) → IsRising (map (λ request. request.arrival) (front ++ pick ∷ back))
    → IsRising (map (λ request. request.arrival) (front ++ back))
rising_without [] back pick rising = rising.1
rising_without (request ∷ front) back pick rising =
    (all_without (λ later. request.arrival ≤ later) front back pick rising.0, rising_without front back pick rising.1)

abbrev pub Rises : List Request → Type 0
Rises requests = IsRising (map (λ request. request.arrival) requests)

pub rest_rises : (key : Request → ℕ) (now : ℕ) (left others : List Request) (pick : Request) → IsFirstReady key now left pick others
    → Rises left → Rises others
rest_rises key now left others pick m rising = subst Rises (sym m.rest) (rising_without m.front m.back pick (subst Rises m.whole rising))

pub turn_start : (key : Request → ℕ) (now start : ℕ) (left others : List Request) (pick : Request) → Rises left → start ≡ start_of now left
    → IsFirstReady key start left pick others → IsReadyAt now left start
turn_start key now start [] others pick rising e m = absurd (omega (arith, ap length m.whole, length-append m.front (pick ∷ m.back)))
turn_start key now start (request ∷ requests) others pick rising e m =
    subst (λ t. IsReadyAt now (request ∷ requests) t) (sym e) (start_is now request requests rising)

turns_follow : (disk : Disk) (key : Key) (head : Track) (now : ℕ) (left : List Request) (replay : List Served) → Rises left
    → AreTurns disk key head now left replay → FollowsRules disk key head now left replay
turns_follow disk key head now left [] rising turns = turns
turns_follow disk key head now left (served ∷ later) rising turns =
    let turn = turns.1 in (
      turns.0,
      record {
        start = turn_start (key disk head served.start) now served.start left turns.0 served.request rising turn.start turn.pick;
        pick = turn.pick;
        passes = turn.passes;
      },
      turns_follow disk key (last_track disk served) (finish served) turns.0 later
          (rest_rises (key disk head served.start) served.start left turns.0 served.request turn.pick rising) turns.2,
    )

-- ---- and nothing else follows them

one_start : (now : ℕ) (left : List Request) (start other : ℕ) → IsReadyAt now left start → IsReadyAt now left other → start ≡ other
one_start now left start other a b = omega (arith, a.first other b.from b.arrived, b.first start a.from a.arrived)

-- where there is a pick, the replay goes on with it
plain_next : (n : ℕ) (disk : Disk) (key : Key) (head : Track) (now start : ℕ) (left others : List Request) (pick : Request)
    → start ≡ start_of now left
    → first_ready (key disk head start) start left ≡ Some (pick, others)
    → plain (suc n) disk key head now left ≡ go_on n disk key head start (pick, others)
unfolding plain
plain_next n disk key head now start left others pick e found =
    ap (λ t. unwrap_or (option_map (go_on n disk key head t) (first_ready (key disk head t) t left)) []) (sym e)
    ∙ ap (λ best. unwrap_or (option_map (go_on n disk key head start) best) []) found

plain_none : (n : ℕ) (disk : Disk) (key : Key) (head : Track) (now : ℕ) → plain n disk key head now [] ≡ []
unfolding plain
plain_none zero disk key head now = refl
plain_none (suc n) disk key head now = refl

same_turn : (n : ℕ) (disk : Disk) (key : Key) (head : Track) (now : ℕ) (left others : List Request) (served : Served) (later : List Served)
    → Rises left
    → IsServedNext disk key head now left served others → later ≡ plain n disk key (last_track disk served) (finish served) others
    → served ∷ later ≡ plain (suc n) disk key head now left
same_turn n disk key head now left others served later rising next rest =
    let start : served.start ≡ start_of now left = begins left rising next.pick next.start in
    ap (λ xs. served ∷ xs) rest
    ∙ ap (λ s. s ∷ plain n disk key (last_track disk s) (finish s) others) next.passes
    ∙ sym (plain_next n disk key head now served.start left others served.request start
    (one_pick (key disk head served.start) served.start left others served.request next.pick))
  where
    begins : (left : List Request) → Rises left → IsFirstReady (key disk head served.start) served.start left served.request others
        → IsReadyAt now left served.start → served.start ≡ start_of now left
    begins [] rises m ready = absurd (omega (arith, ap length m.whole, length-append m.front (served.request ∷ m.back)))
    begins (request ∷ requests) rises m ready =
        one_start now (request ∷ requests) served.start (start_of now (request ∷ requests)) ready (start_is now request requests rises)

only_plain : (n : ℕ) (disk : Disk) (key : Key) (head : Track) (now : ℕ) (left : List Request) (other : List Served) → Rises left
    → length left ≤ n → FollowsRules disk key head now left other → other ≡ plain n disk key head now left
only_plain n disk key head now left [] rising h follows = sym (ap (plain n disk key head now) follows ∙ plain_none n disk key head now)
only_plain zero disk key head now left (served ∷ later) rising h follows = let m = follows.1.pick in
    absurd (omega (arith, ap length m.whole, length-append m.front (served.request ∷ m.back)))
only_plain (suc n) disk key head now left (served ∷ later) rising h follows =
    let next = follows.1 in
    let others = follows.0 in
    same_turn n disk key head now left others served later rising next
    (only_plain n disk key (last_track disk served) (finish served) others later
    (rest_rises (key disk head served.start) served.start left others served.request next.pick rising)
    (shorter left next.pick.front next.pick.back others served.request n next.pick.whole next.pick.rest h) follows.2)

pub only_replay : (disk : Disk) (key : Key) (requests : List Request) → IsRising (map (λ request. request.arrival) requests)
    → IsOnlyReplay disk key requests
only_replay disk key requests rising = record {
  follows = turns_follow disk key first_track 0 requests (plain_replay disk key requests) rising
      (plain_turns (length requests) disk key first_track 0 requests (omega arith));
  only = λ other follows. only_plain (length requests) disk key first_track 0 requests other rising (omega arith) follows;
}

-- ---- the rows

rows_one_by_one : (medium : Medium) (disk : Disk) (key : Key) (head : Track) (now : ℕ) (left : List Request) (replay : List Served)
    → AreTurns disk key head now left replay → AreOneByOne now (map (fore_row medium) replay)
rows_one_by_one medium disk key head now left [] turns = tt
rows_one_by_one medium disk key head now left (served ∷ later) turns = (
  omega (arith, start_from now left, turns.1.start),
  turns_end disk key head now left turns.0 served turns.1,
  rows_one_by_one medium disk key (last_track disk served) (finish served) turns.0 later turns.2,
)

same_requests : (medium : Medium) (replay : List Served)
    → map (λ (row : ForeRow). row.request) (map (fore_row medium) replay) ≡ map (λ (served : Served). served.request) replay
same_requests medium [] = refl
same_requests medium (served ∷ later) = ap (λ xs. served.request ∷ xs) (same_requests medium later)

pub one_row : (inputs : Inputs) → HaveOneRow (requests inputs) (fore_rows inputs)
unfolding served fore_rows
one_row inputs =
    let replay = plain_replay inputs.disk inputs.key (requests inputs) in
    let turns = plain_turns (length (requests inputs)) inputs.disk inputs.key first_track 0 (requests inputs) (omega arith) in
    let each = each_once inputs.disk inputs.key (requests inputs) in
    record {
      once = subst (IsPermutation (requests inputs)) (sym (same_requests (medium_of inputs) replay)) each.once;
      arrived = all_map (λ (row : ForeRow). row.request.arrival ≤ row.start) (fore_row (medium_of inputs)) replay each.arrived;
      one_by_one = rows_one_by_one (medium_of inputs) inputs.disk inputs.key first_track 0 (requests inputs) replay turns;
    }
