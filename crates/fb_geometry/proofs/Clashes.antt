-- Places that are given twice, the marks of places that are given once, and tracks with more of them than spares.
use denote.{Ref.Bor, Param.Members.Mut}
use Rattle.std.specs.Fn.{ComputesKey, Called}
use Rattle.fb_units.proofs.Among.{Among, among-any, among-append, among-filtered, among-mapped, among-right, among-tail, any-among}
use Rattle.fb_units.proofs.Among.{permuted}
use Rattle.fb_units.proofs.Counts.{any_count, count_cons, same_count}
use Rattle.fb_units.proofs.Filtered.{filter_to}
use Rattle.fb_units.proofs.Lists.{all_get, all_weaker, append_at, map_at, none_of_any}
use Rattle.fb_units.proofs.Searches.{point-is}
use Rattle.fb_geometry.proofs.Words.{All-from_get_or, AllByRecursion, AreInOrder, AreSorted, Bool, HasZones, IsDistinct}
use Rattle.fb_geometry.proofs.Words.{IsDistinct-IsPermutation, IsPartitionPoint, IsPartitionPoint-from_clause, IsPartitionedBy}
use Rattle.fb_geometry.proofs.Words.{IsPermutation, IsPermutation-map, IsPermutation-sym, IsSortedBy, IsStrictWeakOrder, List, Mark}
use Rattle.fb_geometry.proofs.Words.{Pairwise, Place, Shape, Some, [], ap, arith, cases_Bool, cases_lt, cond, drop, false}
use Rattle.fb_geometry.proofs.Words.{false_from_ne_true, filter, filter-append, find, get_or, inl, inr, is_among, is_mark_before}
use Rattle.fb_geometry.proofs.Words.{is_outside, is_place_before, least, length, length-append, list_any, list_any-IsPermutation, lt-ltb}
use Rattle.fb_geometry.proofs.Words.{ltb-true, map, mark_of, nat_tests, none-some, option_map, recursion_from_All, refl, repeated}
use Rattle.fb_geometry.proofs.Words.{same_mark, same_place, slice_get, sorted_far, suc, sym, true, true≢false, zero, ℕ, ◌++◌, ◌+◌, ◌-◌}
use Rattle.fb_geometry.proofs.Words.{◌<◌, ◌∙◌, ◌∷◌, ◌≡◌, ◌≤◌, ◌⊎◌}
use Rattle.fb_geometry.proofs.{Laws.same_places, Marking.mark_of-same, Marking.same_marks, Marking.same_mark-refl}
use Rattle.fb_geometry.proofs.{Slips.pairwise_upto, Slips.pairwise-filter, Slips.pairwise-map, Leasts.place_order, Leasts.least-head}
use Rattle.fb_geometry.proofs.{Leasts.IsOrder}

-- ---- pairs

pub pairwise_from : {A : Type 0} (R : A → A → Type 0) (xs : List A) (d : A) → ((i j : ℕ) → i < j → j < length xs
    → R (get_or xs i d) (get_or xs j d)) → Pairwise R xs
pairwise_from R [] d h = tt
pairwise_from R (x ∷ xs) d h =
    let first = recursion_from_All (R x) xs (All-from_get_or (R x) xs d (λ j l. h 0 (suc j) (omega arith) (omega arith))) in
    (first, pairwise_from R xs d (λ i j l m. h (suc i) (suc j) (omega arith) (omega arith)))

-- a list that was sorted is in order
pub sorted-rise : {A : Type 0} (before : A → A → Bool) → IsStrictWeakOrder before → (xs : List A) (d : A) → IsSortedBy before xs
    → Pairwise (λ x later. before later x ≡ false) xs
sorted-rise before rank xs d up = pairwise_from (λ x later. before later x ≡ false) xs d (λ i j less h. sorted_far before rank xs
    up i j d (omega arith) h)

-- ---- counts

-- ---- repeated places

abbrev count : Place → List Place → ℕ
count place places = length (filter (same_place place) places)

pub same_place-refl : (a : Place) → same_place a a ≡ true
same_place-refl a = grind (arith, nat_tests)

-- a place is among these if some number of them are the same
some_same : (places : List Place) (place : Place) → is_among places place ≡ true → 0 < count place places
some_same places place h = ltb-true 0 (count place places) (sym (any_count (same_place place) places) ∙ h)

listed : (places : List Place) (place : Place) → 0 < count place places → is_among places place ≡ true
listed places place h = any_count (same_place place) places ∙ lt-ltb 0 (count place places) h

all_counted : (places : List Place) → AllByRecursion (λ place. 2 ≤ count place places) (repeated places)
all_counted [] = tt
all_counted (first ∷ places) =
    let rest = all_weaker (λ place. 2 ≤ count place places) (λ place. 2 ≤ count place (first ∷ places))
    (λ place more. omega (arith, count_cons (same_place place) first places)) (repeated places) (all_counted places) in
    elim (cases_Bool (is_among places first)) [
      | inl again ↦
          let own : cond {A = ℕ} (same_place first first) 1 0 ≡ 1 = rw (same_place-refl first) refl in
          rw again (omega (arith, count_cons (same_place first) first places, some_same places first again), rest)
      | inr once ↦ rw once rest
    ]

repeated_counted : (places : List Place) (place : Place) → Among (repeated places) place → 2 ≤ count place places
repeated_counted places place one = all_get (λ place. 2 ≤ count place places) (repeated places) one.0 place (all_counted places) one.1

counted_repeated : (places : List Place) (place : Place) → 2 ≤ count place places → Among (repeated places) place
counted_repeated [] place h = absurd (omega arith)
counted_repeated (first ∷ places) place h = elim (cases_Bool (same_place place first)) [
  | inl here ↦
      let same : place ≡ first = same_places place first here in
      let again : is_among places first ≡ true = ap (is_among places) (sym same) ∙ listed places place (omega (arith, rw here at h)) in
      rw again (0, ap Some (sym same))
  | inr off ↦ let one = counted_repeated places place (rw off at h) in elim (cases_Bool (is_among places first)) [
    | inl again ↦ rw again (among-tail first place (repeated places) one)
    | inr once ↦ rw once one
  ]
]

all-repeated : (P : Place → Type 0) (places : List Place) → AllByRecursion P places → AllByRecursion P (repeated places)
all-repeated P [] all = tt
all-repeated P (place ∷ places) all = elim (cases_Bool (is_among places place)) [
  | inl again ↦ rw again (all.0, all-repeated P places all.1)
  | inr once ↦ rw once (all-repeated P places all.1)
]

pairwise-repeated : (R : Place → Place → Type 0) (places : List Place) → Pairwise R places → Pairwise R (repeated places)
pairwise-repeated R [] h = tt
pairwise-repeated R (place ∷ places) h = elim (cases_Bool (is_among places place)) [
  | inl again ↦ rw again (all-repeated (R place) places h.0, pairwise-repeated R places h.1)
  | inr once ↦ rw once (pairwise-repeated R places h.1)
]

-- the least repeated place is the first one that is repeated in order
pub least_repeated : (places sorted : List Place) → AreSorted places sorted → least is_place_before (repeated places)
    ≡ slice_get (repeated sorted) 0
least_repeated places sorted are = least-head is_place_before place_order (repeated places) (repeated sorted)
    (λ place one. counted_repeated sorted place
    (omega (arith, repeated_counted places place one, same_count (same_place place) places sorted are.same)))
    (λ place one. counted_repeated places place
    (omega (arith, repeated_counted sorted place one, same_count (same_place place) places sorted are.same)))
    (pairwise-repeated (λ place later. is_place_before later place ≡ false) sorted are.rise)

-- the same of those that are grown and repeated, or grown and defects
pub least_clash : (defects grown sorted : List Place) → repeated defects ≡ [] → AreSorted (defects ++ grown) sorted
    → least is_place_before (repeated grown ++ filter (is_among defects) grown) ≡ slice_get (repeated sorted) 0
least_clash defects grown sorted once are = least-head is_place_before place_order (repeated grown
    ++ filter (is_among defects) grown) (repeated sorted)
    (λ place one. counted_repeated sorted place
    (omega (arith, twice place (among-append (repeated grown) (filter (is_among defects) grown) place one), counts place)))
    (λ place one. either place (omega (arith, repeated_counted sorted place one, counts place)))
    (pairwise-repeated (λ place later. is_place_before later place ≡ false) sorted are.rise)
  where
    counts : (place : Place) → count place sorted ≡ count place defects + count place grown
    counts place = same_count (same_place place) (defects ++ grown) sorted are.same
        ∙ (ap length (filter-append (same_place place) defects grown) ∙ length-append (filter (same_place place) defects)
        (filter (same_place place) grown))

    twice : (place : Place) → Among (repeated grown) place ⊎ Among (filter (is_among defects) grown) place
        → 2 ≤ count place defects + count place grown
    twice place (inl rep) = omega (arith, repeated_counted grown place rep)
    twice place (inr both) =
        let parts = among-filtered (is_among defects) grown place both in
        let own = among-any (same_place place) grown place parts.0 (same_place-refl place) in
        omega (arith, some_same defects place parts.1, some_same grown place own)

    either : (place : Place) → 2 ≤ count place defects + count place grown → Among (repeated grown ++ filter (is_among defects) grown) place
    either place h = elim (cases_lt 1 (count place grown)) [
      | inl two ↦ let one = counted_repeated grown place (omega arith) in
          (one.0, append_at (repeated grown) (filter (is_among defects) grown) one.0 place one.1)
      | inr few ↦ elim (cases_lt 1 (count place defects)) [
        | inl two ↦ absurd (none-some place (ap (λ xs. slice_get xs (counted_repeated defects place two).0) (sym once)
            ∙ (counted_repeated defects place two).1))
        | inr one ↦
            let found = any-among (same_place place) grown (listed grown place (omega arith)) in
            among-right (repeated grown) (filter (is_among defects) grown) place
            (filter_to (is_among defects) grown found.1.0 place (found.1.1 ∙ ap Some (sym (same_places place found.0 found.2)))
            (listed defects place (omega arith)))
      ]
    ]

-- ---- the search for a place that is there twice

none_behind : (place next : Place) (places : List Place) → same_place place next ≡ false → is_place_before next place ≡ false
    → AllByRecursion (λ later. is_place_before later next ≡ false) places
    → is_among places place ≡ false
none_behind place next [] apart after all = refl
none_behind place next (later ∷ places) apart after all =
    let off : same_place place later ≡ false = grind (arith, nat_tests, all.0) in
    rw off (none_behind place next places apart after all.1)

pub twin_step : (sorted : List Place) (i : ℕ) (d : Place)
    → Pairwise (λ place later. is_place_before later place ≡ false) sorted → suc i < length sorted
    → same_place (get_or sorted i d) (get_or sorted (suc i) d) ≡ false → repeated (drop (suc i) sorted) ≡ repeated (drop i sorted)
twin_step [] i d up h apart = absurd (omega arith)
twin_step (place ∷ []) i d up h apart = absurd (omega arith)
twin_step (place ∷ next ∷ sorted) zero d up h apart = rw (apart, none_behind place next sorted apart up.0.0 up.1.0) refl
twin_step (place ∷ next ∷ sorted) (suc i) d up h apart = twin_step (next ∷ sorted) i d up.1 (omega arith) apart

pub twin_found : (sorted : List Place) (i : ℕ) (d : Place) → suc i < length sorted
    → same_place (get_or sorted i d) (get_or sorted (suc i) d) ≡ true
    → slice_get (repeated (drop i sorted)) 0 ≡ Some (get_or sorted i d)
twin_found [] i d h same = absurd (omega arith)
twin_found (place ∷ []) i d h same = absurd (omega arith)
twin_found (place ∷ next ∷ sorted) zero d h same = rw same refl
twin_found (place ∷ next ∷ sorted) (suc i) d h same = twin_found (next ∷ sorted) i d (omega arith) same

-- the same by the later index
pub twin_on : (sorted : List Place) (i : ℕ) (d : Place) → Pairwise (λ place later. is_place_before later place ≡ false) sorted
    → 0 < i → i < length sorted
    → same_place (get_or sorted (i - 1) d) (get_or sorted i d) ≡ false → repeated (drop (i + 1 - 1) sorted) ≡ repeated (drop (i - 1) sorted)
twin_on sorted i d up some h apart =
    let next : i + 1 - 1 ≡ suc (i - 1) = omega arith in
    let same : i ≡ suc (i - 1) = omega arith in
    rw next (twin_step sorted (i - 1) d up (omega arith)
    (ap (λ k. same_place (get_or sorted (i - 1) d) (get_or sorted k d)) (sym same) ∙ apart))

pub twin_at : (sorted : List Place) (i : ℕ) (d : Place) → 0 < i → i < length sorted
    → same_place (get_or sorted (i - 1) d) (get_or sorted i d) ≡ true
    → slice_get (repeated (drop (i - 1) sorted)) 0 ≡ Some (get_or sorted (i - 1) d)
twin_at sorted i d some h same =
    let next : i ≡ suc (i - 1) = omega arith in twin_found sorted (i - 1) d (omega arith)
    (ap (λ k. same_place (get_or sorted (i - 1) d) (get_or sorted k d)) (sym next) ∙ same)

pub twin_none : (sorted : List Place) (i : ℕ) → length sorted ≤ i + 1 → repeated (drop i sorted) ≡ []
twin_none [] zero h = refl
twin_none [] (suc i) h = refl
twin_none (place ∷ []) zero h = refl
twin_none (place ∷ next ∷ sorted) zero h = absurd (omega arith)
twin_none (place ∷ sorted) (suc i) h = twin_none sorted i (omega arith)

-- ---- marks of places

-- marks are the same if their places are
marks_same : (disk : Shape) → HasZones disk → (a b : Place) → is_outside disk a ≡ false → is_outside disk b ≡ false
    → same_mark (mark_of disk a) (mark_of disk b) ≡ same_place a b
marks_same disk zones a b h k = elim (cases_Bool (same_place a b)) [
  | inl same ↦ ap (λ p. same_mark (mark_of disk a) (mark_of disk p)) (sym (same_places a b same))
      ∙ (same_mark-refl (mark_of disk a) ∙ sym same)
  | inr apart ↦ false_from_ne_true (same_mark (mark_of disk a) (mark_of disk b)) (λ same. true≢false
      (sym (ap (same_place a) (sym (mark_of-same disk a b zones h k (same_marks (mark_of disk a) (mark_of disk b) same)))
      ∙ same_place-refl a) ∙ apart)) ∙ sym apart
]

module _ (disk : Shape) (zones : HasZones disk) (xs : List Place) (marks : List Mark)
    (inside : AllByRecursion (λ place. is_outside disk place ≡ false) xs) (same : IsPermutation (map (mark_of disk) xs) marks) where
  pub inside_of : (place : Place) → Among xs place → is_outside disk place ≡ false
  inside_of place one = all_get (λ place. is_outside disk place ≡ false) xs one.0 place inside one.1

  pub mark_among : (place : Place) → Among xs place → Among marks (mark_of disk place)
  mark_among place one = permuted (map (mark_of disk) xs) marks (mark_of disk place) same
      (one.0, map_at (mark_of disk) xs one.0 place one.1)

  pub place_among : (mark : Mark) → Among marks mark → (place : Place) × Among xs place × (mark_of disk place ≡ mark)
  place_among mark one = among-mapped (mark_of disk) xs mark (permuted marks (map (mark_of disk) xs) mark
      (IsPermutation-sym (map (mark_of disk) xs) marks same) one)

  -- whether a place's mark is one of them
  pub among_others : (place : Place) → is_outside disk place ≡ false → list_any (same_mark (mark_of disk place)) marks ≡ is_among xs place
  among_others place in_ = sym (list_any-IsPermutation (same_mark (mark_of disk place)) (map (mark_of disk) xs)
      marks same) ∙ agree xs inside
    where
      agree : (xs : List Place) → AllByRecursion (λ place. is_outside disk place ≡ false) xs
          → list_any (same_mark (mark_of disk place)) (map (mark_of disk) xs) ≡ is_among xs place
      agree [] all = refl
      agree (other ∷ xs) all = rw (marks_same disk zones place other in_ all.0, agree xs all.1) refl

  -- marks of places that are there once are there once
  apart : (xs : List Place) → AllByRecursion (λ place. is_outside disk place ≡ false) xs → repeated xs ≡ []
      → IsDistinct same_mark (map (mark_of disk) xs)
  unfolding IsDistinct
  apart [] all none = tt
  apart (place ∷ xs) all none = elim (cases_Bool (is_among xs place)) [
    | inl again ↦ absurd (omega (arith, ap length (rw again at none)))
    | inr once ↦ (each xs all.1 (none_of_any (same_place place) xs once), apart xs all.1 (rw once at none))
  ]
    where
      each : (xs : List Place) → AllByRecursion (λ place. is_outside disk place ≡ false) xs
          → AllByRecursion (λ other. same_place place other ≡ false) xs
          → AllByRecursion (λ mark. same_mark (mark_of disk place) mark ≡ false) (map (mark_of disk) xs)
      each [] in_ off = tt
      each (other ∷ xs) in_ off = (marks_same disk zones place other all.0 in_.0 ∙ off.0, each xs in_.1 off.1)

  -- sorted marks of places that are there once are in order
  pub marks_in_order : repeated xs ≡ [] → Pairwise (λ mark later. is_mark_before later mark ≡ false) marks → AreInOrder marks
  unfolding IsDistinct
  marks_in_order none up = strictly marks (IsDistinct-IsPermutation same_mark (λ a b. grind (arith, nat_tests)) (map (mark_of disk) xs)
      marks same (apart xs inside none)) up
    where
      behind : (mark : Mark) (marks : List Mark) → AllByRecursion (λ later. same_mark mark later ≡ false) marks
          → AllByRecursion (λ later. is_mark_before later mark ≡ false) marks
          → AllByRecursion (λ later. is_mark_before mark later ≡ true) marks
      behind mark [] off all = tt
      behind mark (later ∷ marks) off all = (grind (arith, nat_tests, off.0, all.0), behind mark marks off.1 all.1)

      strictly : (marks : List Mark) → IsDistinct same_mark marks
          → Pairwise (λ mark later. is_mark_before later mark ≡ false) marks → AreInOrder marks
      strictly [] off up = tt
      strictly (mark ∷ marks) off up = (behind mark marks off.0 up.0, strictly marks off.1 up.1)

-- ---- the first that is full

first_full : {K : Type 0} (key : Place → K) (full : K → Bool) (places : List Place) → slice_get (filter full (map key places)) 0
    ≡ option_map key (find (λ place. full (key place)) places)
first_full key full [] = refl
first_full key full (place ∷ places) = grind (arith, first_full key full places)

-- the least full track or cylinder is that of the first place in order that is on one
pub least_full : {K : Type 0} (before : K → K → Bool) → IsOrder before → (key : Place → K) → ((a b : Place) → is_place_before b a ≡ false
    → before (key b) (key a) ≡ false)
    → (full : K → Bool) (places sorted : List Place) → AreSorted places sorted → least before (filter full (map key places))
    ≡ option_map key (find (λ place. full (key place)) sorted)
least_full {K = K} before order key so full places sorted are =
    least-head before order (filter full (map key places)) (filter full (map key sorted)) (kept (map key places) (map key sorted) same)
    (kept (map key sorted) (map key places) (IsPermutation-sym (map key places) (map key sorted) same))
    (pairwise-filter (λ x later. before later x ≡ false) (λ x later. before later x ≡ false) full (λ x later here there h. h)
    (map key sorted) (pairwise-map (λ place later. is_place_before later place
    ≡ false) (λ x later. before later x ≡ false) key so sorted are.rise))
    ∙ first_full key full sorted
  where
    same : IsPermutation (map key places) (map key sorted)
    same = IsPermutation-map key places sorted are.same

    kept : (xs ys : List K) → IsPermutation xs ys → (x : K) → Among (filter full xs) x → Among (filter full ys) x
    kept xs ys h x one = let parts = among-filtered full xs x one in
        let found = permuted xs ys x h parts.0 in filter_to full ys found.0 x found.1 parts.1

-- ---- how many are on a track or cylinder

-- a search finds how many pass a test if a place before one that passes it passes it too
pub passing : {F : Type 0} {g : Mut F (Bor Place × Unit {0}) Bool} {f : F} (test : Place → Bool)
    → ((a b : Place) → is_place_before b a ≡ false → test b ≡ true → test a ≡ true) → (places sorted : List Place)
    → AreSorted places sorted → (i : ℕ) → i ≤ length sorted → ((q : Place → Bool) → ComputesKey g q f → IsPartitionedBy q sorted
    → IsPartitionPoint (λ place. q place ≡ true) (λ place. q place ≡ false) sorted i)
    → ((a : Bor Place × Unit {0}) (r : Bool) (f' : F) → Called g f a r f' → (r ≡ test a.0.now) × (f' ≡ f))
    → length (filter test places) ≡ i
passing test so places sorted are i h finds called = sym (same_count test places sorted are.same)
    ∙ point-is test sorted i h (IsPartitionPoint-from_clause test sorted i finds
    (pairwise_upto (λ place later. is_place_before later place ≡ false) (λ a b. test b ≡ true → test a ≡ true) so (λ a passes. passes)
    sorted are.rise) called)
