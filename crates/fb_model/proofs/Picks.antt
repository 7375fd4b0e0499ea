-- The pick is the first request of least key, and the others stay in their order.
use Rattle.fb_model.proofs.Words.{inl, inr, ◌∙◌, ◌≡◌, ℕ, ◌≤◌, ◌<◌, List, [], ◌∷◌, ◌++◌, refl, true, false, Bool, cond, Option, Some, None}
use Rattle.fb_model.proofs.Words.{arith, sym, subst, ap, nat_le, if◌then◌else◌, AllByRecursion, cases_Bool, nat_tests, is_after, Request}
use Rattle.fb_model.proofs.Words.{first_ready, has_arrived, IsFirstReady, IsReadyPickOf}
use Rattle.std.proofs.Common.{leb→le}
use Rattle.fb_store.proofs.Runs.{so}
use Rattle.fb_model.specs.PlainReplay.{better, first_least, kept, pick_with}
use Rattle.fb_model.specs.Laws.{IsFirstLeast, IsPickOf}

-- no key is smaller than the pick's
all_least : (key : Request → ℕ) (least : ℕ) (pick : Request) (front back : List Request) → least ≤ key pick
    → AllByRecursion (λ request. key pick < key request) front → AllByRecursion (λ request. key pick ≤ key request) back
    → AllByRecursion (λ request. least ≤ key request) (front ++ pick ∷ back)
all_least key least pick [] back p before after = (p, weaker back after)
  where
    weaker : (back : List Request) → AllByRecursion (λ request. key pick ≤ key request) back
        → AllByRecursion (λ request. least ≤ key request) back
    weaker [] q = tt
    weaker (request ∷ requests) q = (let one = q.0 in omega arith, weaker requests q.1)
all_least key least pick (request ∷ front) back p before after =
    (let one = before.0 in omega arith, all_least key least pick front back p before.1 after)

pick_one : (key : Request → ℕ) (request : Request) (requests : List Request) (best : Request × List Request) (b : Bool)
    → nat_le (key request) (key best.0) ≡ b
    → IsFirstLeast key requests best.0 best.1
    → IsPickOf key (request ∷ requests) (cond b (Some (request, requests)) (Some (best.0, request ∷ best.1)))
pick_one key request requests best true e m = record {
  front = [];
  back = requests;
  whole = refl;
  rest = refl;
  before = tt;
  after = subst (λ rest. AllByRecursion (λ other. key request ≤ key other) rest) (sym m.whole)
      (all_least key (key request) best.0 m.front m.back
      (leb→le (key request) (key best.0) (so (nat_le (key request) (key best.0)) e)) m.before m.after);
}
pick_one key request requests best false e m = record {
  front = request ∷ m.front;
  back = m.back;
  whole = ap (λ rest. request ∷ rest) m.whole;
  rest = ap (λ rest. request ∷ rest) m.rest;
  before = (is_after (key request) (key best.0) e, m.before);
  after = m.after;
}

pick_step : (key : Request → ℕ) (request : Request) (requests : List Request) (best : Option (Request × List Request))
    → IsPickOf key requests best → IsPickOf key (request ∷ requests) (better key request requests best)
pick_step key request requests None e = record {
  front = [];
  back = requests;
  whole = refl;
  rest = refl;
  before = tt;
  after = subst (λ rest. AllByRecursion (λ other. key request ≤ key other) rest) (sym e) tt;
}
pick_step key request requests (Some best) m = pick_one key request requests best (nat_le (key request) (key best.0)) refl m

pub pick_of-first_least : (key : Request → ℕ) (requests : List Request) → IsPickOf key requests (first_least key requests)
pick_of-first_least key [] = refl
pick_of-first_least key (request ∷ requests) = pick_step key request requests (first_least key requests) (pick_of-first_least key requests)

-- ---- among those that have arrived

-- no key of those that have arrived is smaller than the pick's
all_ready : (key : Request → ℕ) (now least : ℕ) (pick : Request) (front back : List Request) → least ≤ key pick
    → AllByRecursion (λ request. request.arrival ≤ now → key pick < key request) front
    → AllByRecursion (λ request. request.arrival ≤ now → key pick ≤ key request) back
    → AllByRecursion (λ request. request.arrival ≤ now → least ≤ key request) (front ++ pick ∷ back)
all_ready key now least pick [] back p before after = (λ arrived. p, weaker back after)
  where
    weaker : (back : List Request) → AllByRecursion (λ request. request.arrival ≤ now → key pick ≤ key request) back
        → AllByRecursion (λ request. request.arrival ≤ now → least ≤ key request) back
    weaker [] q = tt
    weaker (request ∷ requests) q = (λ arrived. (let one = q.0 arrived in omega arith), weaker requests q.1)
all_ready key now least pick (request ∷ front) back p before after =
    (λ arrived. (let one = before.0 arrived in omega arith), all_ready key now least pick front back p before.1 after)

none_ready : (key : Request → ℕ) (now least : ℕ) (requests : List Request) → AllByRecursion (λ request. now < request.arrival) requests
    → AllByRecursion (λ request. request.arrival ≤ now → least ≤ key request) requests
none_ready key now least [] none = tt
none_ready key now least (request ∷ requests) none =
    (λ arrived. absurd (let late = none.0 in omega arith), none_ready key now least requests none.1)

ready_one : (key : Request → ℕ) (now : ℕ) (request : Request) (requests : List Request) (best : Request × List Request) (b : Bool)
    → request.arrival ≤ now → nat_le (key request) (key best.0) ≡ b
    → IsFirstReady key now requests best.0 best.1
    → IsReadyPickOf key now (request ∷ requests) (cond b (Some (request, requests)) (Some (best.0, request ∷ best.1)))
ready_one key now request requests best true here e m = record {
  front = [];
  back = requests;
  whole = refl;
  rest = refl;
  arrived = here;
  before = tt;
  after = subst (λ rest. AllByRecursion (λ other. other.arrival ≤ now → key request ≤ key other) rest) (sym m.whole)
      (all_ready key now (key request) best.0 m.front m.back
      (leb→le (key request) (key best.0) (so (nat_le (key request) (key best.0)) e)) m.before m.after);
}
ready_one key now request requests best false here e m = record {
  front = request ∷ m.front;
  back = m.back;
  whole = ap (λ rest. request ∷ rest) m.whole;
  rest = ap (λ rest. request ∷ rest) m.rest;
  arrived = m.arrived;
  before = (λ arrived. is_after (key request) (key best.0) e, m.before);
  after = m.after;
}

ready_better : (key : Request → ℕ) (now : ℕ) (request : Request) (requests : List Request) (best : Option (Request × List Request))
    → request.arrival ≤ now
    → IsReadyPickOf key now requests best → IsReadyPickOf key now (request ∷ requests) (better key request requests best)
ready_better key now request requests None here m = record {
  front = [];
  back = requests;
  whole = refl;
  rest = refl;
  arrived = here;
  before = tt;
  after = none_ready key now (key request) requests m;
}
ready_better key now request requests (Some best) here m =
    ready_one key now request requests best (nat_le (key request) (key best.0)) here refl m

ready_kept : (key : Request → ℕ) (now : ℕ) (request : Request) (requests : List Request) (best : Option (Request × List Request))
    → now < request.arrival
    → IsReadyPickOf key now requests best → IsReadyPickOf key now (request ∷ requests) (kept request best)
ready_kept key now request requests None late m = (late, m)
ready_kept key now request requests (Some best) late m = record {
  front = request ∷ m.front;
  back = m.back;
  whole = ap (λ rest. request ∷ rest) m.whole;
  rest = ap (λ rest. request ∷ rest) m.rest;
  arrived = m.arrived;
  before = (λ arrived. absurd (omega arith), m.before);
  after = m.after;
}

ready_step : (key : Request → ℕ) (now : ℕ) (request : Request) (requests : List Request) (best : Option (Request × List Request)) (b : Bool)
    → has_arrived now request ≡ b
    → IsReadyPickOf key now requests best → IsReadyPickOf key now (request ∷ requests) (pick_with b key request requests best)
ready_step key now request requests best true e m =
    ready_better key now request requests best (leb→le request.arrival now (so (nat_le request.arrival now) e)) m
ready_step key now request requests best false e m = ready_kept key now request requests best (is_after request.arrival now e) m

pub ready_pick : (key : Request → ℕ) (now : ℕ) (requests : List Request) → IsReadyPickOf key now requests (first_ready key now requests)
ready_pick key now [] = tt
ready_pick key now (request ∷ requests) =
    ready_step key now request requests (first_ready key now requests) (has_arrived now request) refl (ready_pick key now requests)

-- ---- and nothing else is a pick

-- the pick among those that have arrived is one
one_back : (key : Request → ℕ) (now : ℕ) (pick : Request) (back : List Request) (best : Option (Request × List Request))
    → AllByRecursion (λ request. request.arrival ≤ now → key pick ≤ key request) back
    → IsReadyPickOf key now back best → better key pick back best ≡ Some (pick, back)
one_back key now pick back None after m = refl
one_back key now pick back (Some best) after m =
    let least =
    at_pick m.front (subst (λ xs. AllByRecursion (λ request. request.arrival ≤ now → key pick ≤ key request) xs) m.whole after) m.arrived in
    let so : nat_le (key pick) (key best.0) ≡ true = grind (arith, nat_tests) in
    ap (λ b. if b then Some (pick, back) else Some (best.0, pick ∷ best.1)) so
  where
    at_pick : (front : List Request) → AllByRecursion (λ request. request.arrival ≤ now → key pick ≤ key request) (front ++ best.0 ∷ m.back)
        → best.0.arrival ≤ now → key pick ≤ key best.0
    at_pick [] all arrived = all.0 arrived
    at_pick (request ∷ front) all arrived = at_pick front all.1 arrived

one_front : (key : Request → ℕ) (now : ℕ) (pick : Request) (front back : List Request) → pick.arrival ≤ now
    → AllByRecursion (λ request. request.arrival ≤ now → key pick < key request) front
    → AllByRecursion (λ request. request.arrival ≤ now → key pick ≤ key request) back
    → first_ready key now (front ++ pick ∷ back) ≡ Some (pick, front ++ back)
one_front key now pick [] back arrived before after =
    let here : nat_le pick.arrival now ≡ true = grind (arith, nat_tests) in
    ap (λ b. pick_with b key pick back (first_ready key now back)) here
    ∙ one_back key now pick back (first_ready key now back) after (ready_pick key now back)
one_front key now pick (request ∷ front) back arrived before after =
    let rest = one_front key now pick front back arrived before.1 after in
    ap (pick_with (has_arrived now request) key request (front ++ pick ∷ back)) rest ∙ elim (cases_Bool (has_arrived now request)) [
      | inl here ↦
          let greater = before.0 (let so : request.arrival ≤ now = grind (arith, nat_tests) in so) in
          let not_less : nat_le (key request) (key pick) ≡ false = grind (arith, nat_tests) in
          ap (λ b. pick_with b key request (front ++ pick ∷ back) (Some (pick, front ++ back))) here
          ∙ ap (λ b. if b then Some (request, front ++ pick ∷ back) else Some (pick, request ∷ (front ++ back))) not_less
      | inr late ↦ ap (λ b. pick_with b key request (front ++ pick ∷ back) (Some (pick, front ++ back))) late
    ]

pub one_pick : (key : Request → ℕ) (now : ℕ) (left others : List Request) (pick : Request) → IsFirstReady key now left pick others
    → first_ready key now left ≡ Some (pick, others)
one_pick key now left others pick m = ap (first_ready key now) m.whole ∙ one_front key now pick m.front m.back m.arrived m.before m.after
    ∙ ap (λ xs. Some (pick, xs)) (sym m.rest)

least_back : (key : Request → ℕ) (pick : Request) (back : List Request) (best : Option (Request × List Request))
    → AllByRecursion (λ request. key pick ≤ key request) back
    → IsPickOf key back best → better key pick back best ≡ Some (pick, back)
least_back key pick back None after m = refl
least_back key pick back (Some best) after m =
    let least = at_pick m.front (subst (λ xs. AllByRecursion (λ request. key pick ≤ key request) xs) m.whole after) in
    let so : nat_le (key pick) (key best.0) ≡ true = grind (arith, nat_tests) in
    ap (λ b. if b then Some (pick, back) else Some (best.0, pick ∷ best.1)) so
  where
    at_pick : (front : List Request) → AllByRecursion (λ request. key pick ≤ key request) (front ++ best.0 ∷ m.back) → key pick ≤ key best.0
    at_pick [] all = all.0
    at_pick (request ∷ front) all = at_pick front all.1

least_front : (key : Request → ℕ) (pick : Request) (front back : List Request) → AllByRecursion (λ request. key pick < key request) front
    → AllByRecursion (λ request. key pick ≤ key request) back → first_least key (front ++ pick ∷ back) ≡ Some (pick, front ++ back)
least_front key pick [] back before after = least_back key pick back (first_least key back) after (pick_of-first_least key back)
least_front key pick (request ∷ front) back before after =
    let greater = before.0 in
    let not_less : nat_le (key request) (key pick) ≡ false = grind (arith, nat_tests) in
    ap (better key request (front ++ pick ∷ back)) (least_front key pick front back before.1 after)
    ∙ ap (λ b. if b then Some (request, front ++ pick ∷ back) else Some (pick, request ∷ (front ++ back))) not_less

pub one_least : (key : Request → ℕ) (requests others : List Request) (pick : Request) → IsFirstLeast key requests pick others
    → first_least key requests ≡ Some (pick, others)
one_least key requests others pick m =
    ap (first_least key) m.whole ∙ least_front key pick m.front m.back m.before m.after ∙ ap (λ xs. Some (pick, xs)) (sym m.rest)

-- what holds of all requests holds of the one that is picked, and of the others
pub all_without : (P : Request → Type 0) (front back : List Request) (pick : Request) → AllByRecursion P (front ++ pick ∷ back)
    → P pick × AllByRecursion P (front ++ back)
all_without P [] back pick all = all
all_without P (request ∷ front) back pick all = let rest = all_without P front back pick all.1 in (rest.0, (all.0, rest.1))

pub all_picked : (P : Request → Type 0) (key : Request → ℕ) (now : ℕ) (left others : List Request) (pick : Request)
    → IsFirstReady key now left pick others
    → AllByRecursion P left → P pick × AllByRecursion P others
all_picked P key now left others pick is all =
    let both = all_without P is.front is.back pick (subst (AllByRecursion P) is.whole all) in
    (both.0, subst (AllByRecursion P) (sym is.rest) both.1)
