-- The instants of arrivals and calls, and those of them by an instant.
use Rattle.fb_model.proofs.Words.{◌≡◌, ◌⊎◌, ℕ, ◌<◌, ◌≤◌, List, [], ◌∷◌, map, Bool, true, false, refl, ap, ap₂, sym, ◌∙◌, arith, inl, inr}
use Rattle.fb_model.proofs.Words.{nat_le, max, filter, AllByRecursion, fold, cases_Bool, nat_tests, after_is, is_after, is_by, all_pass}
use Rattle.fb_model.proofs.Words.{all_weaker, Request, IsRising, kept_map, none_kept, Call, among}

abbrev pub is_by_then : ℕ → ℕ → Bool
is_by_then t instant = nat_le instant t

-- one of these instants
abbrev pub IsAmong : ℕ → List ℕ → Type 0
IsAmong t [] = ⊥
IsAmong t (x ∷ xs) = (x ≡ t) ⊎ IsAmong t xs

pub all_after : (t x : ℕ) (instants : List ℕ) → t < x → AllByRecursion (λ later. x ≤ later) instants
    → AllByRecursion (λ instant. is_by_then t instant ≡ false) instants
all_after t x instants h all =
    all_weaker (λ later. x ≤ later) (λ instant. is_by_then t instant ≡ false) (λ y from. after_is y t (omega (arith, from, h))) instants all

-- ---- an instant comes among others

pub all_among : (P : ℕ → Type 0) (xs : List ℕ) (t : ℕ) → AllByRecursion P xs → P t → AllByRecursion P (among xs t)
all_among P [] t all h = (h, tt)
all_among P (x ∷ xs) t all h = elim (cases_Bool (nat_le x t)) [
  | inl first ↦ rw first (all.0, all_among P xs t all.1 h)
  | inr later ↦ rw later (h, all)
]

pub rising_among : (xs : List ℕ) (t : ℕ) → IsRising xs → IsRising (among xs t)
rising_among [] t rising = (tt, tt)
rising_among (x ∷ xs) t rising = elim (cases_Bool (nat_le x t)) [
  | inl first ↦ rw first (all_among (λ later. x ≤ later) xs t rising.0 (grind (arith, nat_tests)), rising_among xs t rising.1)
  | inr later ↦ rw later (let less : t ≤ x = grind (arith, nat_tests) in
      ((less, all_weaker (λ y. x ≤ y) (λ y. t ≤ y) (λ y h. omega (arith, h, less)) xs rising.0), rising))
]

pub was_among : (u : ℕ) (xs : List ℕ) (t : ℕ) → IsAmong u xs → IsAmong u (among xs t)
was_among u [] t there = absurd there
was_among u (x ∷ xs) t there = elim (cases_Bool (nat_le x t)) [
  | inl first ↦ rw first (elim there [ inl here ↦ inl here | inr rest ↦ inr (was_among u xs t rest) ])
  | inr later ↦ rw later (inr there)
]

kept_among : (t : ℕ) (xs : List ℕ) (x : ℕ) → IsRising xs → is_by_then t x ≡ true
    → filter (is_by_then t) (among xs x) ≡ among (filter (is_by_then t) xs) x
kept_among t [] x rising by = rw by refl
kept_among t (y ∷ xs) x rising by = elim (cases_Bool (nat_le y x)) [
  | inl first ↦
      let by_y : is_by_then t y ≡ true = grind (arith, nat_tests) in
      rw (first, by_y, first) (ap (λ ys. y ∷ ys) (kept_among t xs x rising.1 by))
  | inr later ↦ elim (cases_Bool (is_by_then t y)) [
    | inl by_y ↦ rw (later, by, by_y, later) refl
    | inr late ↦ rw (later, by, late, none_kept (is_by_then t) xs (all_after t y xs (is_after y t late) rising.0)) refl
  ]
]

dropped_among : (t : ℕ) (xs : List ℕ) (x : ℕ) → is_by_then t x ≡ false → filter (is_by_then t) (among xs x) ≡ filter (is_by_then t) xs
dropped_among t [] x late = rw late refl
dropped_among t (y ∷ xs) x late = elim (cases_Bool (nat_le y x)) [
  | inl first ↦ elim (cases_Bool (is_by_then t y)) [
    | inl by_y ↦ rw (first, by_y) (ap (λ ys. y ∷ ys) (dropped_among t xs x late))
    | inr late_y ↦ rw (first, late_y) (dropped_among t xs x late)
  ]
  | inr later ↦ rw (later, late) refl
]

-- ---- and so do many

pub rising_all_among : (ts xs : List ℕ) → IsRising xs → IsRising (fold among xs ts)
rising_all_among [] xs rising = rising
rising_all_among (t ∷ ts) xs rising = rising_all_among ts (among xs t) (rising_among xs t rising)

pub was_all_among : (u : ℕ) (ts xs : List ℕ) → IsAmong u xs → IsAmong u (fold among xs ts)
was_all_among u [] xs there = there
was_all_among u (t ∷ ts) xs there = was_all_among u ts (among xs t) (was_among u xs t there)

kept_all_among : (t : ℕ) (us xs : List ℕ) → IsRising xs
    → filter (is_by_then t) (fold among xs us) ≡ fold among (filter (is_by_then t) xs) (filter (is_by_then t) us)
kept_all_among t [] xs rising = refl
kept_all_among t (u ∷ us) xs rising = kept_all_among t us (among xs u) (rising_among xs u rising) ∙ elim (cases_Bool (is_by_then t u)) [
  | inl by ↦ rw by (ap (λ ys. fold among ys (filter (is_by_then t) us)) (kept_among t xs u rising by))
  | inr late ↦ rw late (ap (λ ys. fold among ys (filter (is_by_then t) us)) (dropped_among t xs u late))
]

-- ---- of requests and calls

arrivals_among : (requests : List Request)
    → AllByRecursion (λ (r : Request). IsAmong r.arrival (map (λ (r : Request). r.arrival) requests)) requests
arrivals_among [] = tt
arrivals_among (request ∷ requests) = (
  inl refl,
  all_weaker (λ (r : Request). IsAmong r.arrival (map (λ (r : Request). r.arrival) requests))
      (λ (r : Request). IsAmong r.arrival (map (λ (r : Request). r.arrival) (request ∷ requests))) (λ r there. inr there) requests
      (arrivals_among requests),
)

abbrev pub instants_from : List Request → List Call → List ℕ
instants_from requests calls = fold among (map (λ (r : Request). r.arrival) requests) (map (λ (call : Call). call.instant) calls)

pub all_come : (requests : List Request) (calls : List Call)
    → AllByRecursion (λ (r : Request). IsAmong r.arrival (instants_from requests calls)) requests
all_come requests calls = all_weaker (λ (r : Request). IsAmong r.arrival (map (λ (r : Request). r.arrival) requests))
    (λ (r : Request). IsAmong r.arrival (instants_from requests calls))
    (λ r there. was_all_among r.arrival (map (λ (call : Call). call.instant) calls) (map (λ (r : Request). r.arrival) requests) there)
    requests (arrivals_among requests)

pub same_instants : (t : ℕ) (requests_a requests_b : List Request) (calls_a calls_b : List Call)
    → IsRising (map (λ (r : Request). r.arrival) requests_a) → IsRising (map (λ (r : Request). r.arrival) requests_b)
    → filter (λ (r : Request). nat_le r.arrival t) requests_a ≡ filter (λ (r : Request). nat_le r.arrival t) requests_b
    → filter (λ (call : Call). nat_le call.instant t) calls_a ≡ filter (λ (call : Call). nat_le call.instant t) calls_b
    → filter (is_by_then t) (instants_from requests_a calls_a) ≡ filter (is_by_then t) (instants_from requests_b calls_b)
same_instants t requests_a requests_b calls_a calls_b rising_a rising_b requests calls =
    let arrival = λ (r : Request). r.arrival in
    let instant = λ (call : Call). call.instant in
    let each = λ (requests : List Request) (calls : List Call) (rising : IsRising (map arrival requests)).
    kept_all_among t (map instant calls) (map arrival requests) rising
    ∙ ap₂ (fold among) (kept_map (is_by_then t) arrival requests) (kept_map (is_by_then t) instant calls) in
    each requests_a calls_a rising_a ∙ (ap₂ (λ requests calls. fold among (map arrival requests) (map instant calls)) requests calls
    ∙ sym (each requests_b calls_b rising_b))

-- ---- some instants

pub one_filtered : (p : ℕ → Bool) (t : ℕ) (xs : List ℕ) → p t ≡ true → IsAmong t xs → IsAmong t (filter p xs)
one_filtered p t [] h there = absurd there
one_filtered p t (x ∷ xs) h there = elim (cases_Bool (p x)) [
  | inl kept ↦ rw kept (elim there [ inl here ↦ inl here | inr rest ↦ inr (one_filtered p t xs h rest) ])
  | inr dropped ↦ rw dropped (elim there [
    | inl here ↦ absurd (let wrong : true ≡ false = sym h ∙ (sym (ap p here) ∙ dropped) in cc)
    | inr rest ↦ one_filtered p t xs h rest
  ])
]

pub filtered_below : (t : ℕ) (xs : List ℕ) → AllByRecursion (λ x. x ≤ t) (filter (λ x. nat_le x t) xs)
filtered_below t xs = all_weaker _ _ (λ x by. is_by x t by) _ (all_pass (λ x. nat_le x t) xs)

-- ---- the last instant

pub fold_max : (a : ℕ) (xs : List ℕ) → fold max a xs ≡ max a (fold max 0 xs)
fold_max a [] = omega arith
fold_max a (x ∷ xs) = omega (arith, fold_max (max a x) xs, fold_max (max 0 x) xs)

pub most_among : (t : ℕ) (xs : List ℕ) → IsAmong t xs → t ≤ fold max 0 xs
most_among t [] there = absurd there
most_among t (x ∷ xs) there = elim there [
  | inl here ↦ omega (arith, here, fold_max (max 0 x) xs)
  | inr rest ↦ omega (arith, most_among t xs rest, fold_max (max 0 x) xs)
]

-- none is later than the latest of these and another
pub most_below : (t now : ℕ) (xs : List ℕ) → AllByRecursion (λ x. x ≤ t) xs → fold max now xs ≤ max now t
most_below t now [] all = omega arith
most_below t now (x ∷ xs) all = omega (arith, all.0, most_below t (max now x) xs all.1)
