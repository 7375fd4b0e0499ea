-- Ascending numbers, and what is left of a list when the elements that pass a test are dropped.
use Rattle.fb_units.proofs.Comparing.{add_zero, zero_add}
use Rattle.fb_units.proofs.Counts.{count_cons}
use Rattle.fb_units.proofs.Filtered.{kept_to}
use Rattle.fb_units.proofs.Lists.{all_at, all_get, all_weaker, element_at}
use Rattle.fb_geometry.proofs.Words.{AllByRecursion, Bool, HoldsSector, IsAscending, IsNonDecreasingBy, List, Pairwise, Some, [], ap}
use Rattle.fb_geometry.proofs.Words.{arith, cases_Bool, cases_lt, cond, count_by-le-length, entry_of_sector, eq-eqb, false}
use Rattle.fb_geometry.proofs.Words.{false_from_ne_true, filter, get_or, get_or_from_slice_get, indexes, inl, inr, le-ltb, length}
use Rattle.fb_geometry.proofs.Words.{length-filter, length-filter_more, list_any, lt-ltb, map, nat_lt, nat_tests, ne_eqb, none-some, not}
use Rattle.fb_geometry.proofs.Words.{option_map, rank, refl, same_Some, slice_get, slice_get-map, slice_get_within, slipped, subst, suc}
use Rattle.fb_geometry.proofs.Words.{sym, take, true, true≢false, zero, ℕ, ◌+◌, ◌-◌, ◌<◌, ◌==◌, ◌∙◌, ◌∷◌, ◌≡◌, ◌≤◌}

-- ---- elements that stand so to all that follow

pub pairwise_at : {A : Type 0} (R : A → A → Type 0) (xs : List A) (i j : ℕ) (d : A) → Pairwise R xs → i < j → j < length xs
    → R (get_or xs i d) (get_or xs j d)
pairwise_at R [] i j d up l m = absurd (omega arith)
pairwise_at R (x ∷ xs) i zero d up l m = absurd (omega arith)
pairwise_at R (x ∷ xs) zero (suc j) d up l m = all_at (R x) xs j d up.0 (omega arith)
pairwise_at R (x ∷ xs) (suc i) (suc j) d up l m = pairwise_at R xs i j d up.1 (omega arith) (omega arith)

-- what those that pass a test say of each other
pub pairwise-filter : {A : Type 0} (R S : A → A → Type 0) (test : A → Bool)
    → ((x y : A) → test x ≡ true → test y ≡ true → R x y → S x y) → (xs : List A) → Pairwise R xs → Pairwise S (filter test xs)
pairwise-filter R S test so [] h = tt
pairwise-filter {A = A} R S test so (x ∷ xs) h = let rest = pairwise-filter R S test so xs h.1 in
    elim (cases_Bool (test x)) [ inl in_ ↦ rw in_ (each in_ xs h.0, rest) | inr out ↦ rw out rest ]
  where
    each : test x ≡ true → (ys : List A) → AllByRecursion (R x) ys → AllByRecursion (S x) (filter test ys)
    each in_ [] all = tt
    each in_ (y ∷ ys) all = let rest = each in_ ys all.1 in
        elim (cases_Bool (test y)) [ inl passes ↦ rw passes (so x y in_ passes all.0, rest) | inr out ↦ rw out rest ]

-- what elements say of each other is so of what they are mapped to
pub pairwise-map : {A B : Type 0} (R : A → A → Type 0) (S : B → B → Type 0) (f : A → B) → ((x y : A) → R x y → S (f x) (f y))
    → (xs : List A) → Pairwise R xs → Pairwise S (map f xs)
pairwise-map R S f so [] h = tt
pairwise-map {A = A} R S f so (x ∷ xs) h = (each xs h.0, pairwise-map R S f so xs h.1)
  where
    each : (ys : List A) → AllByRecursion (R x) ys → AllByRecursion (S (f x)) (map f ys)
    each [] all = tt
    each (y ∷ ys) all = (so x y all.0, each ys all.1)

-- what follows from it, and is so of each element and itself
pub pairwise_upto : {A : Type 0} (R S : A → A → Type 0) → ((a b : A) → R a b → S a b) → ((a : A) → S a a) → (xs : List A)
    → Pairwise R xs → (i j : ℕ) (d : A) → i ≤ j → j < length xs → S (get_or xs i d) (get_or xs j d)
pairwise_upto R S so self xs up i j d le h = elim (cases_lt i j) [
  | inl less ↦ so (get_or xs i d) (get_or xs j d) (pairwise_at R xs i j d up less h)
  | inr upto ↦ let same : i ≡ j = omega arith in subst (λ k. S (get_or xs i d) (get_or xs k d)) same (self (get_or xs i d))
]

-- they don't fall
pub rises : {A : Type 0} (R : A → A → Type 0) (key : A → ℕ) → ((a b : A) → R a b → key a ≤ key b) → (xs : List A) → Pairwise R xs
    → IsNonDecreasingBy key xs
rises R key so = pairwise_upto R (λ a b. key a ≤ key b) so (λ a. omega arith)

-- ---- ascending numbers

-- a number is one of these
abbrev pub has : List ℕ → ℕ → Bool
has numbers number = list_any (λ other. other == number) numbers

pub all_over : (a b : ℕ) (numbers : List ℕ) → a ≤ b → AllByRecursion (λ later. b < later) numbers
    → AllByRecursion (λ later. a < later) numbers
all_over a b numbers h = all_weaker (λ later. b < later) (λ later. a < later) (λ later over. omega arith) numbers

pub not_among_later : (number : ℕ) (numbers : List ℕ) → AllByRecursion (λ later. number < later) numbers → has numbers number ≡ false
not_among_later number [] all = refl
not_among_later number (x ∷ numbers) all = rw (ne_eqb x number (λ e. omega (arith, all.0))) (not_among_later number numbers all.1)

rank_cons : (number x : ℕ) (numbers : List ℕ) → rank number (x ∷ numbers) ≡ cond (nat_lt x number) 1 0 + rank number numbers
rank_cons number x numbers = count_cons (λ passed. nat_lt passed number) x numbers

-- no number is before one that all are behind
rank_none : (number : ℕ) (numbers : List ℕ) → AllByRecursion (λ later. number < later) numbers → rank number numbers ≡ 0
rank_none number [] all = refl
rank_none number (x ∷ numbers) all = rw (le-ltb x number (omega (arith, all.0))) (rank_none number numbers all.1)

pub rank-le_length : (number : ℕ) (numbers : List ℕ) → rank number numbers ≤ length numbers
rank-le_length number numbers =
    omega (arith, length-filter (λ passed. nat_lt passed number) numbers, count_by-le-length (λ passed. nat_lt passed number) numbers)

-- one number further a rank is greater by one where the number is among them
pub rank_next : (number : ℕ) (numbers : List ℕ) → IsAscending numbers → rank (number + 1) numbers
    ≡ rank number numbers + cond (has numbers number) 1 0
rank_next number [] up = refl
rank_next number (x ∷ numbers) up =
    let once : x ≡ number → has numbers number ≡ false = λ same. not_among_later number numbers
    (all_over number x numbers (omega arith) up.0) in
    grind (arith, nat_tests, rank_cons number x numbers, rank_cons (number + 1) x numbers, rank_next number numbers up.1)

-- between two numbers a rank grows by no more than there are numbers between
rank_on : (a n : ℕ) (numbers : List ℕ) → IsAscending numbers → (rank a numbers ≤ rank (a + n) numbers)
    × (rank (a + n) numbers ≤ rank a numbers + n)
rank_on a zero numbers up = let same : rank (a + 0) numbers ≡ rank a numbers = ap (λ b. rank b numbers) (add_zero a) in
    (omega arith, omega arith)
rank_on a (suc n) numbers up =
    let next : rank (a + suc n) numbers ≡ rank (a + n + 1) numbers = ap (λ b. rank b numbers) (omega arith) in
    let rest = rank_on a n numbers up in
    let more = rank_next (a + n) numbers up in
    (grind (arith, nat_tests), grind (arith, nat_tests))

pub rank-step : (a b : ℕ) (numbers : List ℕ) → IsAscending numbers → a ≤ b → (rank a numbers ≤ rank b numbers)
    × (rank b numbers ≤ rank a numbers + (b - a))
rank-step a b numbers up h = subst (λ c. (rank a numbers ≤ rank c numbers) × (rank c numbers ≤ rank a numbers + (b - a))) (omega arith)
    (rank_on a (b - a) numbers up)

pub rank-below : (number : ℕ) (numbers : List ℕ) → IsAscending numbers → rank number numbers ≤ number
rank-below number numbers up = omega (arith, (rank-step 0 number numbers up (omega arith)).1, rank_zero numbers)
  where
    rank_zero : (numbers : List ℕ) → rank 0 numbers ≡ 0
    rank_zero [] = refl
    rank_zero (x ∷ numbers) = rw (le-ltb x 0 (omega arith)) (rank_zero numbers)

-- a number among them has as many before it as its index says
pub rank-at : (i : ℕ) (numbers : List ℕ) (q : ℕ) → IsAscending numbers → slice_get numbers i ≡ Some q
    → (rank q numbers ≡ i) × (has numbers q ≡ true)
rank-at i [] q up at = absurd (none-some q at)
rank-at zero (x ∷ numbers) q up at =
    subst (λ q. (rank q (x ∷ numbers) ≡ 0) × (has (x ∷ numbers) q ≡ true)) (same_Some x q at)
    (rw (le-ltb x x (omega arith)) (rank_none x numbers up.0), rw (eq-eqb x x refl) refl)
rank-at (suc i) (x ∷ numbers) q up at =
    let rest = rank-at i numbers q up.1 at in
    let less = all_get (λ later. x < later) numbers i q up.0 at in
    (rw (lt-ltb x q less) (ap suc rest.0), rw (ne_eqb x q (λ e. omega arith)) rest.1)

-- one that is among them stands before any behind it, and one that isn't leaves the rank as it is
module _ (numbers : List ℕ) (up : IsAscending numbers) where
  pub rank_marked : (q b : ℕ) → has numbers q ≡ true → q < b → rank q numbers < rank b numbers
  rank_marked q b among h = let one = rw among at (rank_next q numbers up) in
      omega (arith, one, (rank-step (q + 1) b numbers up (omega arith)).0)

  pub rank_free : (q b : ℕ) → has numbers q ≡ false → q < b → rank b numbers + q < rank q numbers + b
  rank_free q b free h = let one = rw free at (rank_next q numbers up) in
      omega (arith, one, (rank-step (q + 1) b numbers up (omega arith)).1)

  -- the next one that is marked is not before the position, and none is marked up to it
  pub next_marked : (start next : ℕ) → slice_get numbers (rank start numbers) ≡ Some next
      → (start ≤ next) × ((q : ℕ) → start ≤ q → q < next → has numbers q ≡ false) × (has numbers start ≡ (next == start))
      × (has numbers next ≡ true)
  next_marked start next at =
      let one = rank-at (rank start numbers) numbers next up at in
      let upto : start ≤ next = grind (arith, rank_marked next start one.1, one.0) in
      let free : (q : ℕ) → start ≤ q → q < next → has numbers q ≡ false = λ q from below. false_from_ne_true (has numbers q)
      (λ among. omega (arith, rank_marked q next among below, one.0, (rank-step start q numbers up from).0)) in
      (upto, free, grind (arith, nat_tests, free start), one.1)

  -- none is marked behind the last one
  pub free_behind : (position q : ℕ) → length numbers ≤ rank position numbers → position ≤ q → has numbers q ≡ false
  free_behind position q none from = let low = (rank-step position q numbers up from).0 in false_from_ne_true (has numbers q)
      (λ among. omega (arith, rank_marked q (q + 1) among (omega arith), rank-le_length (q + 1) numbers, low))

-- ---- slipping

-- a number slips on by as many as are before the place that it gets to, and to none of them
slips_to : (number q : ℕ) (numbers : List ℕ) → IsAscending numbers → slipped number numbers ≡ q → (rank q numbers + number ≡ q)
    × (has numbers q ≡ false)
slips_to number q [] up e = (omega arith, refl)
slips_to number q (x ∷ numbers) up e = elim (cases_lt number x) [
  | inl h ↦
      let same : number ≡ q = rw (lt-ltb number x h) at e in
      let over = all_over q x numbers (omega arith) up.0 in
      (rw (le-ltb x q (omega arith)) (omega (arith, rank_none q numbers over)), not_among_later q (x ∷ numbers) (omega arith, over))
  | inr h ↦
      let rest = slips_to (number + 1) q numbers up.1 (rw (le-ltb number x h) at e) in
      (rw (lt-ltb x q (omega (arith, rest.0))) (omega (arith, rest.0)), rw (ne_eqb x q (λ e. omega (arith, rest.0))) rest.1)
]

pub slipped_to : (number : ℕ) (numbers : List ℕ) → IsAscending numbers
    → (rank (slipped number numbers) numbers + number ≡ slipped number numbers) × (has numbers (slipped number numbers) ≡ false)
slipped_to number numbers up = slips_to number (slipped number numbers) numbers up refl

module _ (numbers : List ℕ) (up : IsAscending numbers) where
  -- there is one such place
  pub slipped_only : (k q : ℕ) → rank q numbers + k ≡ q → has numbers q ≡ false → slipped k numbers ≡ q
  slipped_only k q e free =
      let other = slipped_to k numbers up in
      grind (arith, other.0, rank_free numbers up (slipped k numbers) q other.1, rank_free numbers up q (slipped k numbers) free)

  -- numbers go on with the positions as long as none is marked
  pub slipped_on : (k i : ℕ) → ((q : ℕ) → slipped k numbers ≤ q → q < slipped k numbers + i + 1 → has numbers q ≡ false)
      → slipped (k + i) numbers ≡ slipped k numbers + i
  slipped_on k i free = slipped_only (k + i) (slipped k numbers + i) (omega (arith, (slipped_to k numbers up).0, flat i (omega arith)))
      (free (slipped k numbers + i) (omega arith) (omega arith))
    where
      flat : (n : ℕ) → n ≤ i → rank (slipped k numbers + n) numbers ≡ rank (slipped k numbers) numbers
      flat zero h = ap (λ b. rank b numbers) (add_zero (slipped k numbers))
      flat (suc n) h = ap (λ b. rank b numbers) (omega arith) ∙ (rw (free (slipped k numbers + n) (omega arith) (omega arith)) at
          (rank_next (slipped k numbers + n) numbers up) ∙ (add_zero (rank (slipped k numbers + n) numbers) ∙ flat n (omega arith)))

-- ---- the entry of a sector

module _ (marked : List ℕ) (up : IsAscending marked) (sectors : ℕ) where
  abbrev moved : ℕ → ℕ
  moved sector = slipped (sectors - rank sectors marked + rank sector marked) marked

  -- where a marked sector moves to: behind all that are in use, to an entry that isn't marked
  moves_to : (sector : ℕ) → sector < sectors → has marked sector ≡ true → (has marked (moved sector) ≡ false)
      × (moved sector - rank (moved sector) marked ≡ sectors - rank sectors marked + rank sector marked)
      × (rank sector marked < rank sectors marked) × (sectors ≤ moved sector)
  moves_to sector h among =
      let to = slipped_to (sectors - rank sectors marked + rank sector marked) marked up in
      let few = rank_marked marked up sector sectors among h in
      (to.1, omega arith, few, grind (arith, rank_free marked up (moved sector) sectors to.1, rank-below sectors marked up, to.0))

  pub stays_at : (sector : ℕ) → has marked sector ≡ false → entry_of_sector marked sectors sector ≡ sector
  stays_at sector stays = rw stays refl

  -- the entry of a sector holds it
  pub entry_holds : (sector : ℕ) → sector < sectors → (has marked (entry_of_sector marked sectors sector) ≡ false)
      × (entry_of_sector marked sectors sector - rank (entry_of_sector marked sectors sector) marked < sectors)
  entry_holds sector h = elim (cases_Bool (has marked sector)) [
    | inl among ↦ let to = moves_to sector h among in rw among (to.0, omega (arith, to.1, to.2, rank-below sectors marked up))
    | inr stays ↦ rw stays (stays, omega arith)
  ]

  -- no two sectors have one entry
  one_moved : (i j : ℕ) → i < sectors → j < sectors → has marked i ≡ true → entry_of_sector marked sectors i
      ≡ entry_of_sector marked sectors j → i ≡ j
  one_moved i j h k gone same = let to = moves_to i h gone in elim (cases_Bool (has marked j)) [
    | inl moves ↦
        let both = ap (λ entry. entry - rank entry marked) (rw (gone, moves) at same) in
        grind (arith, both, to.1, (moves_to j k moves).1, rank_marked marked up i j gone, rank_marked marked up j i moves)
    | inr stays ↦ absurd (omega (arith, to.3, rw (gone, stays) at same))
  ]

  pub one_entry : (i j : ℕ) → i < sectors → j < sectors → entry_of_sector marked sectors i ≡ entry_of_sector marked sectors j → i ≡ j
  one_entry i j h k same = grind (arith, one_moved i j h k, one_moved j i k h, stays_at i, stays_at j)

  -- what an entry holds has that entry
  pub held : (entry sector : ℕ) → HoldsSector marked sectors entry sector → (sector < sectors)
      × (entry_of_sector marked sectors sector ≡ entry)
  held entry sector (free, inl own) =
      (omega (arith, own.0, own.1), subst (λ s. entry_of_sector marked sectors s ≡ entry) (sym own.1) (rw free refl))
  held entry sector (free, inr stead) =
      let at = rank-at (entry - rank entry marked - (sectors - rank sectors marked)) marked sector up stead.2 in
      let low = rank-below sectors marked up in
      let more = rank-step sectors entry marked up stead.0 in
      let below : sector < sectors = grind (arith, rank-step sectors sector marked up, at.0, stead.1) in
      let start = sectors - rank sectors marked + rank sector marked in
      (below, rw at.1 (slipped_only marked up start entry (omega (arith, at.0, rank-below entry marked up)) free))

-- ---- what is left of a list where the elements that pass a test are dropped

-- indexes from one on are behind all below it
pub indexes-over : {A : Type 0} (test : A → Bool) (a index : ℕ) (xs : List A) → a < index
    → AllByRecursion (λ later. a < later) (indexes test index xs)
indexes-over test a index [] h = tt
indexes-over test a index (x ∷ xs) h = let rest = indexes-over test a (index + 1) xs (omega arith) in
    elim (cases_Bool (test x)) [ inl in_ ↦ rw in_ (h, rest) | inr out ↦ rw out rest ]

pub indexes-ascend : {A : Type 0} (test : A → Bool) (index : ℕ) (xs : List A) → IsAscending (indexes test index xs)
indexes-ascend test index [] = tt
indexes-ascend test index (x ∷ xs) = let rest = indexes-ascend test (index + 1) xs in
    elim (cases_Bool (test x)) [ inl in_ ↦ rw in_ (indexes-over test index (index + 1) xs (omega arith), rest) | inr out ↦ rw out rest ]

-- an index is among them just where its element passes
index_passes : {A : Type 0} (test : A → Bool) (a i : ℕ) (xs : List A) → has (indexes test a xs) (a + i) ≡ get_or (map test xs) i false
index_passes test a i [] = refl
index_passes test a zero (x ∷ xs) = ap (has (indexes test a (x ∷ xs))) (add_zero a) ∙ elim (cases_Bool (test x)) [
  | inl in_ ↦ rw (in_, eq-eqb a a refl) refl
  | inr out ↦ rw out (not_among_later a (indexes test (a + 1) xs) (indexes-over test a (a + 1) xs (omega arith)))
]
index_passes test a (suc i) (x ∷ xs) =
    let rest : has (indexes test (a + 1) xs) (a + suc i) ≡ get_or (map test xs) i false = ap (has (indexes test (a + 1) xs)) (omega arith)
    ∙ index_passes test (a + 1) i xs in
    elim (cases_Bool (test x)) [ inl in_ ↦ rw (in_, ne_eqb a (a + suc i) (λ e. omega arith)) rest | inr out ↦ rw out rest ]

passes_at : {A : Type 0} (test : A → Bool) (i : ℕ) (xs : List A) → get_or (map test xs) i false ≡ true
    → (x : A) × (slice_get xs i ≡ Some x) × (test x ≡ true)
passes_at test i [] h = absurd (true≢false (sym h))
passes_at test zero (x ∷ xs) h = (x, refl, h)
passes_at test (suc i) (x ∷ xs) h = passes_at test i xs h

-- the elements that are kept and those that are dropped are all together
pub length-kept : {A : Type 0} (test : A → Bool) (a : ℕ) (xs : List A)
    → length (filter (λ x. not (test x)) xs) + length (indexes test a xs) ≡ length xs
length-kept test a [] = refl
length-kept test a (x ∷ xs) = grind (arith, length-kept test (a + 1) xs)

module _ {A : Type 0} (test : A → Bool) (xs : List A) where
  abbrev pub numbers : List ℕ
  numbers = indexes test 0 xs

  abbrev pub left : List A
  left = filter (λ x. not (test x)) xs

  pub is_marked_at : (i : ℕ) (x : A) → slice_get xs i ≡ Some x → has numbers i ≡ test x
  is_marked_at i x at = ap (has numbers) (sym (zero_add i)) ∙ (index_passes test 0 i xs ∙ get_or_from_slice_get (map test xs) i (test x)
      false (slice_get-map test xs i ∙ ap (option_map test) at))

  pub index_of : (i : ℕ) → has numbers i ≡ true → (x : A) × (slice_get xs i ≡ Some x) × (test x ≡ true)
  index_of i h = passes_at test i xs (sym (index_passes test 0 i xs) ∙ (ap (has numbers) (zero_add i) ∙ h))

  up : IsAscending numbers
  up = indexes-ascend test 0 xs

  -- what is left of the front
  pub length_front : (i : ℕ) → i ≤ length xs → length (filter (λ x. not (test x)) (take i xs)) + rank i numbers ≡ i
  length_front zero h = omega (arith, rank-below 0 numbers up)
  length_front (suc i) h =
      let one = element_at xs i (omega arith) in
      let same : get_or xs i one.0 ≡ one.0 = get_or_from_slice_get xs i one.0 one.0 one.1 in
      let next : suc i ≡ i + 1 = omega arith in
      let more = length-filter_more (λ x. not (test x)) xs i one.0 (omega arith) in
      let ranks = rw (is_marked_at i one.0 one.1) at (rank_next i numbers up) in
      rw next (elim (cases_Bool (test one.0)) [
        | inl out ↦ omega (arith, rw (same, out) at more, rw out at ranks, length_front i (omega arith))
        | inr stays ↦ omega (arith, rw (same, stays) at more, rw stays at ranks, length_front i (omega arith))
      ])

  -- where one that is left goes
  pub goes : (i : ℕ) (x : A) → slice_get xs i ≡ Some x → test x ≡ false → slice_get left (i - rank i numbers) ≡ Some x
  goes i x at stays = subst (λ k. slice_get left k ≡ Some x) (omega (arith, length_front i (omega (arith, slice_get_within xs i x at))))
      (kept_to (λ x. not (test x)) i xs x at (rw stays refl))

  -- the k-th that is left
  pub kth : (k : ℕ) → k < length left → (slipped k numbers < length xs) × (slice_get left k ≡ slice_get xs (slipped k numbers))
  kth k h =
      let to = slipped_to k numbers up in
      let inside : slipped k numbers < length xs = omega (arith, to.0, rank-le_length (slipped k numbers) numbers, length-kept test 0 xs) in
      let one = element_at xs (slipped k numbers) inside in
      let there = goes (slipped k numbers) one.0 one.1 (sym (is_marked_at (slipped k numbers) one.0 one.1) ∙ to.1) in
      (inside, ap (slice_get left) (omega (arith, to.0)) ∙ (there ∙ sym one.1))
