-- The first request of least rank, taken out.
use Rattle.fb_fastq.proofs.Words.{◌≡◌, ◌≢◌, ℕ, zero, suc, ◌+◌, ◌<◌, ◌≤◌, List, [], ◌∷◌, map, refl, sym, ap, subst, ◌∙◌, arith, Bool, true}
use Rattle.fb_fastq.proofs.Words.{false, inl, inr, Option, Some, None, IsSome, length, nat_lt, nat_le, ◌==◌, if◌then◌else◌, IfSome}
use Rattle.fb_fastq.proofs.Words.{AllByRecursion, lookup, BTreeMap, is_at, cases_Bool, true≢false, nat_tests, Request}
use Rattle.fb_fastq.proofs.Words.{first_least, better, order, Waits, Holds, AllHeld, Waiting, number_of, join_in, in_order, pending_of}
use Rattle.fb_fastq.proofs.Words.{NumbersDiffer, IsNoLater, IsFirst, IsFirstHeld, all_from_index, all_get, all_weaker, none-some, Among}
use Rattle.fb_fastq.proofs.Words.{place_from_lookup, all_unmapped}
use Rattle.fb_queue.proofs.FirstLeast.{later_better}
use Rattle.fb_fastq.proofs.{Swept.some_injective, Keys.equal_keys, Keys.here_equal, Keys.same_key}
use Rattle.fb_fastq.proofs.{Joins.all_join, Joins.all_in_order}

abbrev pub IsRising : List Waiting → Type 0
IsRising [] = Unit {0}
IsRising (w ∷ ws) = AllByRecursion (λ x. number_of w < number_of x) ws × IsRising ws

above : (m n : ℕ) (ws : List Waiting) → m < n → AllByRecursion (λ x. n < number_of x) ws → AllByRecursion (λ x. m < number_of x) ws
above m n ws h all = all_weaker _ _ (λ x over. omega (arith, h, over)) ws all

join_rising : (w : Waiting) (ws : List Waiting) → AllByRecursion (λ x. number_of x ≢ number_of w) ws → IsRising ws → IsRising (join_in w ws)
join_rising w [] apart h = (tt, tt)
join_rising w (x ∷ ws) apart h = elim (cases_Bool (nat_lt (number_of w) (number_of x))) [
  | inl less ↦ let lt : number_of w < number_of x = grind (arith, nat_tests) in
      rw less ((lt, above (number_of w) (number_of x) ws lt h.0), h)
  | inr more ↦ let other : number_of x ≢ number_of w = apart.0 in let lt : number_of x < number_of w = grind (arith, nat_tests) in
      rw more (all_join (λ y. number_of x < number_of y) w ws lt h.0, join_rising w ws apart.1 h.1)
]

pub in_order_rising : (ws : List Waiting) → NumbersDiffer ws → IsRising (in_order ws)
in_order_rising [] h = tt
in_order_rising (w ∷ ws) h = join_rising w (in_order ws) (all_in_order (λ x. number_of x ≢ number_of w) ws h.0) (in_order_rising ws h.1)

abbrev pub without : ℕ → List Waiting → List Waiting
without n [] = []
without n (w ∷ ws) = if number_of w == n then ws else w ∷ without n ws

pub without_joined : (w : Waiting) (ws : List Waiting) → AllByRecursion (λ x. number_of x ≢ number_of w) ws
    → without (number_of w) (join_in w ws) ≡ ws
without_joined w [] h = let t : (number_of w == number_of w) ≡ true = grind (arith, nat_tests) in rw t refl
without_joined w (x ∷ ws) h = elim (cases_Bool (nat_lt (number_of w) (number_of x))) [
  | inl less ↦ let t : (number_of w == number_of w) ≡ true = grind (arith, nat_tests) in rw (less, t) refl
  | inr more ↦ let other : number_of x ≢ number_of w = h.0 in let t : (number_of x == number_of w) ≡ false = grind (arith, nat_tests) in
      rw (more, t) (ap (λ l. x ∷ l) (without_joined w ws h.1))
]

joins_front : (w : Waiting) (ws : List Waiting) → AllByRecursion (λ x. number_of w < number_of x) ws → join_in w ws ≡ w ∷ ws
joins_front w [] h = refl
joins_front w (x ∷ ws) h = let lt : number_of w < number_of x = h.0 in
    let t : nat_lt (number_of w) (number_of x) ≡ true = grind (arith, nat_tests) in rw t refl

pub without_other : (n : ℕ) (w : Waiting) (ws : List Waiting) → number_of w ≢ n → IsRising ws
    → without n (join_in w ws) ≡ join_in w (without n ws)
without_other n w [] other h = let t : (number_of w == n) ≡ false = grind (arith, nat_tests) in rw t refl
without_other n w (x ∷ ws) other h = let s : (number_of w == n) ≡ false = grind (arith, nat_tests) in
    elim (cases_Bool (nat_lt (number_of w) (number_of x))) [
      | inl less ↦ let lt : number_of w < number_of x = grind (arith, nat_tests) in elim (cases_Bool (number_of x == n)) [
        | inl here ↦ rw (less, s, here) (sym (joins_front w ws (above (number_of w) (number_of x) ws lt h.0)))
        | inr there ↦ rw (less, s, there, less) refl
      ]
      | inr more ↦ elim (cases_Bool (number_of x == n)) [
        | inl here ↦ rw (more, here) refl
        | inr there ↦ rw (more, there, more) (ap (λ l. x ∷ l) (without_other n w ws other h.1))
      ]
    ]

front_better : (rank : Request → ℕ) (r : Request) (rs : List Request) (best : Option (Request × List Request))
    → IfSome best (λ b. rank r ≤ rank b.0) → better rank r rs best ≡ Some (r, rs)
front_better rank r rs None h = refl
front_better rank r rs (Some b) h = let le : rank r ≤ rank b.0 = h in
    let t : nat_le (rank r) (rank b.0) ≡ true = grind (arith, nat_tests) in rw t refl

picked_better : (P : Request → Type 0) (rank : Request → ℕ) (r : Request) (rs : List Request) (best : Option (Request × List Request)) → P r
    → IfSome best (λ b. P b.0) → IfSome (better rank r rs best) (λ b. P b.0)
picked_better P rank r rs None p h = p
picked_better P rank r rs (Some b) p h = elim (cases_Bool (nat_le (rank r) (rank b.0))) [ inl yes' ↦ rw yes' p | inr no' ↦ rw no' h ]

picked : (P : Request → Type 0) (rank : Request → ℕ) (ws : List Waiting) → AllByRecursion (λ w. P w.1) ws
    → IfSome (first_least rank (map (λ w. w.1) ws)) (λ b. P b.0)
picked P rank [] h = tt
picked P rank (w ∷ ws) h = picked_better P rank w.1 (map (λ x. x.1) ws) (first_least rank (map (λ x. x.1) ws)) h.0 (picked P rank ws h.1)

not_above : (rank : Request → ℕ) (w : Waiting) (ws : List Waiting) → IsFirst rank w ws → AllByRecursion (λ x. rank w.1 ≤ rank x.1) ws
not_above rank w [] h = tt
not_above rank w (x ∷ ws) h = (elim h.0 [ inl less ↦ omega (arith, less) | inr tied ↦ omega (arith, tied.0) ], not_above rank w ws h.1)

pub least_rising : (rank : Request → ℕ) (w : Waiting) (ws : List Waiting) → IsRising ws → Among ws w → IsFirst rank w ws
    → first_least rank (map (λ x. x.1) ws) ≡ Some (w.1, map (λ x. x.1) (without (number_of w) ws))
least_rising rank w [] h e first = absurd (none-some w e.1)
least_rising rank w (x ∷ ws) h (zero, at) first =
    subst (λ y. first_least rank (map (λ z. z.1) (y ∷ ws)) ≡ Some (w.1, map (λ z. z.1) (without (number_of w) (y ∷ ws))))
    (sym (some_injective x w at)) (let t : (number_of w == number_of w) ≡ true = grind (arith, nat_tests) in
    rw t (front_better rank w.1 (map (λ z. z.1) ws) (first_least rank (map (λ z. z.1) ws))
    (picked (λ r. rank w.1 ≤ rank r) rank ws (not_above rank w ws first.1))))
least_rising rank w (x ∷ ws) h (suc k, at) first =
    let lt : number_of x < number_of w = all_get (λ y. number_of x < number_of y) ws k w h.0 at in
    let t : (number_of x == number_of w) ≡ false = grind (arith, nat_tests) in
    let less : rank w.1 < rank x.1 =
    elim first.0 [ inl l ↦ l | inr tied ↦ let le : number_of w ≤ number_of x = tied.1 in absurd (omega arith) ] in
    rw t (later_better rank x.1 w.1 (map (λ z. z.1) ws) (map (λ z. z.1) (without (number_of w) ws)) (first_least rank (map (λ z. z.1) ws))
    (least_rising rank w ws h.1 (k, at) first.1) less)

-- what holds of all once one has joined holds of it and of the others
from_join : (P : Waiting → Type 0) (w : Waiting) (ws : List Waiting) → AllByRecursion P (join_in w ws) → P w × AllByRecursion P ws
from_join P w [] h = h
from_join P w (x ∷ ws) h = elim (cases_Bool (nat_lt (number_of w) (number_of x))) [
  | inl less ↦ rw less at h
  | inr more ↦ let all : P x × AllByRecursion P (join_in w ws) = rw more at h in
      let rest = from_join P w ws all.1 in (rest.0, (all.0, rest.1))
]

-- what holds of all in order of joining holds of each, wherever it stands
pub from_order : (P : Waiting → Type 0) (ws : List Waiting) → AllByRecursion P (in_order ws) → AllByRecursion P ws
from_order P [] h = tt
from_order P (w ∷ ws) h = let both = from_join P w (in_order ws) h in (both.0, from_order P ws both.1)

-- what the map holds at a key is among its entries
pub held_is_in : (l n : ℕ) (r : Request) (ws : List Waiting) → lookup (is_at (order (l, n))) ws ≡ Some r → Among ws ((l, n), r)
held_is_in l n r ws e =
    let held = place_from_lookup (is_at (order (l, n))) ws r e in
    let keys = equal_keys l n held.1.0 held.1.1 held.3 in
    (held.0, held.2 ∙ ap (λ k. Some ((k, held.1.1), r)) (sym keys.0) ∙ ap (λ k. Some ((l, k), r)) (sym keys.1))

length_joined : (w : Waiting) (ws : List Waiting) → length (map (λ x. x.1) (join_in w ws)) ≡ length (map (λ x. x.1) ws) + 1
length_joined w [] = refl
length_joined w (x ∷ ws) = elim (cases_Bool (nat_lt (number_of w) (number_of x))) [
  | inl less ↦ rw less (omega arith)
  | inr more ↦ let rest = length_joined w ws in rw more (omega (arith, rest))
]

pub length_pending : (ws : List Waiting) → length (pending_of ws) ≡ length ws
length_pending [] = refl
length_pending (w ∷ ws) = let one = length_joined w (in_order ws) in let rest = length_pending ws in omega (arith, one, rest)

pub tells_none : (b : Bool) (n : ℕ) → ((b ≡ true → n ≡ 0) × (n ≡ 0 → b ≡ true)) → b ≡ (n == 0)
tells_none true n h = let none : n ≡ 0 = h.0 refl in grind (arith, nat_tests)
tells_none false zero h = h.1 refl
tells_none false (suc n) h = grind (arith, nat_tests)

-- what holds of each pending request holds of each that waits
pub all_waiting : (P : Request → Type 0) (ws : List Waiting) → AllByRecursion P (pending_of ws) → AllByRecursion (λ w. P w.1) ws
all_waiting P ws h = from_order (λ w. P w.1) ws (all_unmapped P (λ w. w.1) (in_order ws) h)

-- what a key has is one of those that wait
pub at_key : (ws : List Waiting) (q : ℕ × ℕ) → IsSome (lookup (is_at (order q)) ws) → (r : Request) × Among ws (q, r)
at_key ws q has = go (lookup (is_at (order q)) ws) refl has
  where
    go : (o : Option Request) → lookup (is_at (order q)) ws ≡ o → IsSome o → (r : Request) × Among ws (q, r)
    go None e h = absurd (true≢false (sym h))
    go (Some r) e h = (r, held_is_in q.0 q.1 r ws e)

-- the map holds what its entries say
held_value : (w : Waiting) (ws : List Waiting) → NumbersDiffer ws → Among ws w → lookup (is_at (order w.0)) ws ≡ Some w.1
held_value w [] apart e = absurd (none-some w e.1)
held_value w (x ∷ ws) apart (zero, at) = subst (λ y. lookup (is_at (order w.0)) (y ∷ ws) ≡ Some w.1) (sym (some_injective x w at))
    (let t = here_equal w.0.0 w.0.1 in rw t refl)
held_value w (x ∷ ws) apart (suc k, at) =
    let t = same_key w.0.0 w.0.1 x.0.0 x.0.1 (all_get (λ y. number_of y ≢ number_of x) ws k w apart.0 at) in
    rw t (held_value w ws apart.1 (k, at))

-- the first of all that are held is the first of all entries
pub first_listed : (rank : Request → ℕ) (key : ℕ × ℕ) (r : Request) (waiting : BTreeMap (ℕ × ℕ) Request) → NumbersDiffer waiting.entries
    → Holds waiting key r → IsFirstHeld rank waiting key → IsFirst rank (key, r) waiting.entries
first_listed rank key r waiting apart e first =
    all_from_index (λ x. IsNoLater (rank r) key.1 (rank x.1) (number_of x)) waiting.entries
    (λ k w there. first r e w.0 w.1 (held_value w waiting.entries apart (k, there)))

-- where any wait, one is held
pub some_held : (waiting : BTreeMap (ℕ × ℕ) Request) → 0 < length waiting.entries → (key : ℕ × ℕ) × ((r : Request) × Holds waiting key r)
some_held waiting some = at waiting.entries some
  where
    at : (ws : List Waiting) → 0 < length ws → (key : ℕ × ℕ) × ((r : Request) × (lookup (is_at (order key)) ws ≡ Some r))
    at [] some = absurd (omega arith)
    at (w ∷ ws) some = let t = here_equal w.0.0 w.0.1 in (w.0, (w.1, rw t refl))

-- what holds of each entry holds of each request that is held
pub all_held : (P : ℕ × ℕ → Request → Type 0) (waiting : BTreeMap (ℕ × ℕ) Request) → AllByRecursion (λ w. P w.0 w.1) waiting.entries
    → AllHeld P waiting
all_held P waiting all = λ key r e. let there = held_is_in key.0 key.1 r waiting.entries e in
    all_get (λ w. P w.0 w.1) waiting.entries there.0 (key, r) all there.1

-- who holds a request has its key
pub waits_there : (waiting : BTreeMap (ℕ × ℕ) Request) (key : ℕ × ℕ) (r : Request) → Holds waiting key r → Waits waiting key
waits_there waiting key r e = subst IsSome (sym e) refl

-- the first by spots is the first by requests
pub first_by_spot : (rank : ℕ → ℕ) (spot_of : Request → ℕ) (waiting : BTreeMap (ℕ × ℕ) Request) (key : ℕ × ℕ)
    → AllHeld (λ k r. k.0 ≡ spot_of r) waiting
    → ((k : ℕ × ℕ) → Waits waiting k → IsNoLater (rank key.0) key.1 (rank k.0) k.1) → IsFirstHeld (λ r. rank (spot_of r)) waiting key
first_by_spot rank spot_of waiting key stand first = λ r e k s f.
    subst (λ n. IsNoLater (rank n) key.1 (rank (spot_of s)) k.1) (stand key r e)
    (subst (λ n. IsNoLater (rank key.0) key.1 (rank n) k.1) (stand k s f) (first k (waits_there waiting k s f)))
