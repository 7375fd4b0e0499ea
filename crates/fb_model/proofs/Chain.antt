-- The decisions of a run are a chain: each begins where and when the one before it left the head.
use Rattle.fb_model.proofs.Words.{◌≡◌, ◌⊎◌, ℕ, zero, suc, ◌≤◌, List, [], ◌∷◌, ◌++◌, length, map, refl, ap, sym, subst, ◌∙◌, arith, inl}
use Rattle.fb_model.proofs.Words.{inr, max, unwrap_or, nat_lt, filter, option_map, AllByRecursion, fold, cases_Bool, nat_tests, all_weaker}
use Rattle.fb_model.proofs.Words.{Request, Track, Disk, Key, Served, service, finish, last_track, first_ready, start_of, plain}
use Rattle.fb_model.proofs.Words.{first_track, Inputs, requests, served, Decision, serves, idles, ends, idle_until, last_decision}
use Rattle.fb_model.proofs.Words.{decisions_from, decisions, IsReadyPickOf}
use Rattle.std.specs.Prelude.{Option, Some, None, nat_le}
use Rattle.fb_model.specs.Decisions.{instants_of}
use Rattle.fb_model.proofs.DecisionsUpTo.{start_among}
use Rattle.fb_model.proofs.Picks.{all_picked, ready_pick}
use Rattle.fb_model.proofs.Replays.{start_from}
use Rattle.fb_model.proofs.Instants.{IsAmong, was_all_among, one_filtered, filtered_below, fold_max, most_among, most_below}

-- ---- a chain

-- one after another, from a track and an instant on, with services of requests that meet the condition
abbrev pub Follow : (Request → Type 0) → Disk → Track → ℕ → List Decision → Type 0
Follow P disk head now [] = Unit {0}
Follow P disk head now (serves served ∷ later) =
    (served ≡ service disk head now served.request) × P served.request × Follow P disk (last_track disk served) (finish served) later
Follow P disk head now (idles dwell ∷ later) =
    (dwell.track ≡ head) × (dwell.begin ≡ now) × (now ≤ dwell.end) × Follow P disk head dwell.end later
Follow P disk head now (ends end ∷ later) = (end ≡ now) × Follow P disk head now later

-- the services among decisions
abbrev pub services : List Decision → List Served
services [] = []
services (serves served ∷ later) = served ∷ services later
services (_ ∷ later) = services later

-- ---- idle dwells

-- they go on until the latest of the instants
idle_follow : (P : Request → Type 0) (disk : Disk) (head : Track) (now : ℕ) (instants : List ℕ) (later : List Decision)
    → Follow P disk head (fold max now instants) later → Follow P disk head now (idle_until head now instants ++ later)
idle_follow P disk head now [] later h = h
idle_follow P disk head now (instant ∷ instants) later h = elim (cases_Bool (nat_lt now instant)) [
  | inl before ↦ rw before (
    refl,
    refl,
    grind (arith, nat_tests),
    idle_follow P disk head instant instants later (subst (λ t. Follow P disk head (fold max t instants) later)
        (let later : max now instant ≡ instant = grind (arith, nat_tests) in later) h),
  )
  | inr after ↦ rw after (idle_follow P disk head now instants later
      (subst (λ t. Follow P disk head (fold max t instants) later) (let same : max now instant ≡ now = grind (arith, nat_tests) in same) h))
]

idle_services : (head : Track) (now : ℕ) (instants : List ℕ) (later : List Decision)
    → services (idle_until head now instants ++ later) ≡ services later
idle_services head now [] later = refl
idle_services head now (instant ∷ instants) later =
    grind (arith, idle_services head instant instants later, idle_services head now instants later)

-- ---- the instants

-- the latest of the instants up to one is that one, where it stands among them
latest_is : (start now : ℕ) (instants : List ℕ) → now ≤ start → (start ≡ now) ⊎ IsAmong start instants
    → fold max now (filter (λ instant. nat_le instant start) instants) ≡ start
latest_is start now instants h at =
    let before = filter (λ instant. nat_le instant start) instants in
    let most = most_below start now before (filtered_below start instants) in
    elim at [
      | inl here ↦ omega (arith, h, here, most, fold_max now before)
      | inr there ↦ omega (
        arith,
        h,
        most,
        fold_max now before,
        most_among start before (one_filtered (λ instant. nat_le instant start) start instants (grind (arith, nat_tests)) there),
      )
    ]

-- ---- the decisions of a plain replay

last_follows : (P : Request → Type 0) (disk : Disk) (head : Track) (now until : ℕ)
    → Follow P disk head now (last_decision head now until ∷ [])
last_follows P disk head now until = elim (cases_Bool (nat_lt now until)) [
  | inl before ↦ rw before (refl, refl, grind (arith, nat_tests), tt)
  | inr after ↦ rw after (refl, tt)
]

last_services : (head : Track) (now until : ℕ) → services (last_decision head now until ∷ []) ≡ []
last_services head now until = grind arith

module _ (P : Request → Type 0) (disk : Disk) (key : Key) (instants : List ℕ) (until : ℕ) where
  abbrev Chained : Track → ℕ → List Served → Type 0
  Chained head now served = Follow P disk head now (decisions_from disk instants until head now served)
      × (services (decisions_from disk instants until head now served) ≡ served)

  none_chained : (head : Track) (now : ℕ) → Chained head now []
  unfolding decisions_from
  none_chained head now = (
    idle_follow P disk head now instants (last_decision head (fold max now instants) until ∷ [])
        (last_follows P disk head (fold max now instants) until),
    idle_services head now instants (last_decision head (fold max now instants) until ∷ [])
        ∙ last_services head (fold max now instants) until,
  )

  one_chained : (head : Track) (now start : ℕ) (request : Request) (later : List Served) → now ≤ start
      → (start ≡ now) ⊎ IsAmong start instants → P request
      → (let served = service disk head start request in
      Chained (last_track disk served) (finish served) later → Chained head now (served ∷ later))
  unfolding decisions_from
  one_chained head now start request later h at meets rest =
      let served = service disk head start request in
      let before = filter (λ instant. nat_le instant start) instants in
      let others = decisions_from disk instants until (last_track disk served) (finish served) later in
      let starts = latest_is start now instants h at in (
        idle_follow P disk head now before (serves served ∷ others)
            (subst (λ t. Follow P disk head t (serves served ∷ others)) (sym starts) (refl, meets, rest.0)),
        idle_services head now before (serves served ∷ others) ∙ ap (λ xs. served ∷ xs) rest.1,
      )

  -- a pick and what is served behind it
  picked : (n : ℕ) (head : Track) (now start : ℕ) (left : List Request) (pick : Option (Request × List Request)) → now ≤ start
      → (start ≡ now) ⊎ IsAmong start instants
      → AllByRecursion P left → AllByRecursion (λ (r : Request). IsAmong r.arrival instants) left
      → IsReadyPickOf (key disk head start) start left pick
      → ((head : Track) (now : ℕ) (left : List Request) → AllByRecursion P left
      → AllByRecursion (λ (r : Request). IsAmong r.arrival instants) left → Chained head now (plain n disk key head now left))
      → Chained head now (unwrap_or (option_map (λ pick.
      let served = service disk head start pick.0 in
      served ∷ plain n disk key (last_track disk served) (finish served) pick.1) pick) [])
  picked n head now start left None h at meet stand m rest = none_chained head now
  picked n head now start left (Some pick) h at meet stand m rest =
      let served = service disk head start pick.0 in
      let meets = all_picked P (key disk head start) start left pick.1 pick.0 m meet in
      let stands = all_picked (λ (r : Request). IsAmong r.arrival instants) (key disk head start) start left pick.1 pick.0 m stand in
      one_chained head now start pick.0 (plain n disk key (last_track disk served) (finish served) pick.1) h at meets.0
      (rest (last_track disk served) (finish served) pick.1 meets.1 stands.1)

  -- the decisions of a plain replay of requests that meet the condition, and whose arrivals stand among the instants
  pub plain_chained : (n : ℕ) (head : Track) (now : ℕ) (left : List Request) → AllByRecursion P left
      → AllByRecursion (λ (r : Request). IsAmong r.arrival instants) left
      → Chained head now (plain n disk key head now left)
  unfolding plain
  plain_chained zero head now left meet stand = none_chained head now
  plain_chained (suc n) head now left meet stand =
      picked n head now (start_of now left) left (first_ready (key disk head (start_of now left)) (start_of now left) left)
      (start_from now left) (start_among now left instants stand) meet stand
      (ready_pick (key disk head (start_of now left)) (start_of now left) left)
      (λ head now left meet stand. plain_chained n head now left meet stand)

-- ---- the decisions of a run

-- each arrival stands among the arrivals
arrivals_stand : (arriving : List Request)
    → AllByRecursion (λ (r : Request). IsAmong r.arrival (map (λ request. request.arrival) arriving)) arriving
arrivals_stand [] = tt
arrivals_stand (request ∷ later) = (inl refl, all_weaker _ _ (λ r stands. inr stands) later (arrivals_stand later))

-- the decisions are a chain from the first track and the instant 0 on, and serve what the plain replay serves
pub decisions_follow : (P : Request → Type 0) (inputs : Inputs) → AllByRecursion P (requests inputs)
    → Follow P inputs.disk first_track 0 (decisions inputs) × (services (decisions inputs) ≡ served inputs)
unfolding decisions served
decisions_follow P inputs all =
    plain_chained P inputs.disk inputs.key (instants_of inputs) inputs.until (length (requests inputs)) first_track 0 (requests inputs) all
    (all_weaker _ _ (λ (r : Request) stands. was_all_among r.arrival (map (λ call. call.instant) inputs.calls)
    (map (λ request. request.arrival) (requests inputs)) stands) (requests inputs) (arrivals_stand (requests inputs)))
