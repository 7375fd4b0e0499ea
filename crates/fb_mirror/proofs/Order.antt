-- Changes that are sorted by their instants, those of one instant in their order.
use Rattle.fb_mirror.proofs.Words.{◌≡◌, ℕ, suc, ◌+◌, ◌<◌, ◌≤◌, List, [], ◌∷◌, map, length, Option, Some, None, Bool, true, false, cond}
use Rattle.fb_mirror.proofs.Words.{refl, sym, ap, ◌∙◌, arith, inl, inr, subst, nat_lt, filter, option_map, AllByRecursion, IsPermutation}
use Rattle.fb_mirror.proofs.Words.{cases_Bool, cases_lt, nat_tests, all_map, all_append, Content, ContentRun, Unreadable, sectors_in}
use Rattle.fb_mirror.proofs.Words.{sectors_of, after_taking, after_taking-append, Change, changes_in, changes_of, Event, IsWithin, later}
use Rattle.std.proofs.Common.{get_or}
use Rattle.std.specs.Ordering.{is_lt, nat_cmp}
use Rattle.std.specs.List.Sorted.{IsNonDecreasingBy, IsStableByKey, ties}
use Rattle.std.proofs.lemmas.List.Sorted.{All-permutation}
use Rattle.std.proofs.lemmas.List.Elements.{All-from_recursion, recursion_from_All}
use Rattle.fb_mirror.proofs.Taking.{over, taken_over}
use Rattle.fb_mirror.proofs.Deciding.{dated, own, latest}

abbrev is_before : Change → Change → Bool
is_before a b = is_lt (nat_cmp a.instant b.instant)

-- a change at an instant, to compare with
abbrev mark : ℕ → Change
mark instant = record { instant = instant; run = record { first = 0; count = 0; content = Unreadable } }

-- the changes of one instant
abbrev at_instant : ℕ → List Change → List Change
at_instant instant changes = filter (ties is_before (mark instant)) changes

ties_at : (instant : ℕ) (change : Change) → ties is_before (mark instant) change ≡ true → change.instant ≡ instant
ties_at instant change is = grind (arith, nat_tests)

no_ties_at : (instant : ℕ) (change : Change) → ties is_before (mark instant) change ≡ false → change.instant ≡ instant → ⊥
no_ties_at instant change is same = grind (arith, nat_tests)

-- how what decides of all changes and what decides of those of one instant fit
abbrev Fits : ℕ → Option (ℕ × Content) → Option (ℕ × Content) → Type 0
Fits instant None there = there ≡ None
Fits instant (Some last) there = (last.0 < instant → there ≡ None) × (last.0 ≡ instant → there ≡ Some last)

fits_here : (instant : ℕ) (first : ℕ × Content) (all there : Option (ℕ × Content)) → first.0 ≡ instant → Fits instant all there
    → Fits instant (later (Some first) all) (later (Some first) there)
fits_here instant first None there at fits = rw fits (λ less. absurd (omega arith), λ same. refl)
fits_here instant first (Some last) there at fits = elim (cases_Bool (nat_lt last.0 first.0)) [
  | inl less ↦
      let before : last.0 < instant = grind (arith, nat_tests) in
      rw (less, fits.0 before) (λ below. absurd (omega arith), λ same. refl)
  | inr more ↦
      let behind : first.0 ≤ last.0 = grind (arith, nat_tests) in
      rw more (
        λ below. absurd (omega arith),
        λ same. ap (later (Some first)) (fits.1 same) ∙ ap (λ b. cond b (Some first) (Some last)) more,
      )
]

fits_there : (instant : ℕ) (first : ℕ × Content) (all there : Option (ℕ × Content)) → (first.0 ≡ instant → ⊥) → Fits instant all there
    → Fits instant (later (Some first) all) there
fits_there instant first None there other fits = (λ less. fits, λ same. absurd (other same))
fits_there instant first (Some last) there other fits = elim (cases_Bool (nat_lt last.0 first.0)) [
  | inl less ↦
      let before : last.0 < first.0 = grind (arith, nat_tests) in
      rw less (λ below. fits.0 (omega arith), λ same. absurd (other same))
  | inr more ↦ rw more fits
]

fits_with : (instant : ℕ) (change : Change) (content : Option Content) (all there : Option (ℕ × Content)) → change.instant ≡ instant
    → Fits instant all there
    → Fits instant (later (dated change.instant content) all) (later (dated change.instant content) there)
fits_with instant change None all there at fits = fits
fits_with instant change (Some c) all there at fits = fits_here instant (change.instant, c) all there at fits

fits_without : (instant : ℕ) (change : Change) (content : Option Content) (all there : Option (ℕ × Content))
    → (change.instant ≡ instant → ⊥) → Fits instant all there
    → Fits instant (later (dated change.instant content) all) there
fits_without instant change None all there other fits = fits
fits_without instant change (Some c) all there other fits = fits_there instant (change.instant, c) all there other fits

all_fit : (lbn instant : ℕ) (changes : List Change) → Fits instant (latest lbn changes) (latest lbn (at_instant instant changes))
all_fit lbn instant [] = refl
all_fit lbn instant (change ∷ changes) =
    let content = own lbn change in
    let all = latest lbn changes in
    let there = latest lbn (at_instant instant changes) in
    elim (cases_Bool (ties is_before (mark instant) change)) [
      | inl here ↦ rw here (fits_with instant change content all there (ties_at instant change here) (all_fit lbn instant changes))
      | inr off ↦ rw off (fits_without instant change content all there (no_ties_at instant change off) (all_fit lbn instant changes))
    ]

-- two that fit the same are the same
both_fit : (a b : Option (ℕ × Content)) (there : ℕ → Option (ℕ × Content)) → ((instant : ℕ) → Fits instant a (there instant))
    → ((instant : ℕ) → Fits instant b (there instant)) → a ≡ b
both_fit None None there one other = refl
both_fit None (Some b) there one other = sym (one b.0) ∙ (other b.0).1 refl
both_fit (Some a) None there one other = sym ((one a.0).1 refl) ∙ other a.0
both_fit (Some a) (Some b) there one other = elim (cases_lt a.0 b.0) [
  | inl less ↦ absurd (none_some b (sym ((one b.0).0 less) ∙ (other b.0).1 refl))
  | inr more ↦ elim (cases_lt b.0 a.0) [
    | inl less ↦ absurd (none_some a (sym ((other a.0).0 less) ∙ (one a.0).1 refl))
    | inr less ↦ sym ((one a.0).1 refl) ∙ (other a.0).1 (omega arith)
  ]
] where
  none_some : (last : ℕ × Content) → None ≡ Some last → ⊥
  none_some last e = grind arith

-- a stable sort changes nothing in what decides
stable_latest : (lbn : ℕ) (xs ys : List Change) → IsStableByKey (λ change. change.instant) nat_cmp xs ys → latest lbn ys ≡ latest lbn xs
stable_latest lbn xs ys stable =
    both_fit (latest lbn ys) (latest lbn xs) (λ instant. latest lbn (at_instant instant xs))
    (λ instant. subst (λ changes. Fits instant (latest lbn ys) (latest lbn changes)) (stable (mark instant)) (all_fit lbn instant ys))
    (λ instant. all_fit lbn instant xs)

abbrev AtLeast : ℕ → Option (ℕ × Content) → Type 0
AtLeast instant None = Unit {0}
AtLeast instant (Some last) = instant ≤ last.0

later_at_least : (instant : ℕ) (change : Change) (content : Option Content) (rest : Option (ℕ × Content)) → instant ≤ change.instant
    → AtLeast instant rest → AtLeast instant (later (dated change.instant content) rest)
later_at_least instant change None rest le above = above
later_at_least instant change (Some c) None le above = le
later_at_least instant change (Some c) (Some last) le above = elim (cases_Bool (nat_lt last.0 change.instant)) [
  | inl less ↦ rw less le
  | inr more ↦ rw more above
]

latest_at_least : (lbn instant : ℕ) (changes : List Change)
    → ((j : ℕ) (d : Change) → j < length changes → instant ≤ (get_or changes j d).instant) → AtLeast instant (latest lbn changes)
latest_at_least lbn instant [] all = tt
latest_at_least lbn instant (change ∷ changes) all =
    later_at_least instant change (own lbn change) (latest lbn changes) (all 0 change (omega arith))
    (latest_at_least lbn instant changes (λ j d less. all (suc j) d (omega arith)))

last_over : (instant : ℕ) (content : Option Content) (rest : Option (ℕ × Content)) → AtLeast instant rest
    → over (option_map (λ last. last.1) rest) content ≡ option_map (λ last. last.1) (later (dated instant content) rest)
last_over instant None None above = refl
last_over instant (Some c) None above = refl
last_over instant None (Some last) above = refl
last_over instant (Some c) (Some last) above = let no : nat_lt last.0 instant ≡ false = grind (arith, nat_tests) in rw no refl

-- where the instants rise, the last change decides
last_decides : (lbn : ℕ) (changes : List Change) → IsNonDecreasingBy (λ change. change.instant) changes
    → after_taking (sectors_of (map (λ change. change.run) changes)) lbn None ≡ option_map (λ last. last.1) (latest lbn changes)
last_decides lbn [] up = refl
last_decides lbn (change ∷ changes) up =
    let runs = map (λ change. change.run) changes in
    after_taking-append (sectors_in change.run) (sectors_of runs) lbn None
    ∙ taken_over (sectors_of runs) lbn (own lbn change)
    ∙ ap (λ top. over top (own lbn change)) (last_decides lbn changes (λ i j d le less. up (suc i) (suc j) d (omega arith) (omega arith)))
    ∙ last_over change.instant (own lbn change) (latest lbn changes)
    (latest_at_least lbn change.instant changes (λ j d less. up 0 (suc j) d (omega arith) (omega arith)))

-- what sorted changes leave is what decides of them all
pub sorted_decide : (lbn : ℕ) (xs ys : List Change) → IsStableByKey (λ change. change.instant) nat_cmp xs ys
    → IsNonDecreasingBy (λ change. change.instant) ys
    → after_taking (sectors_of (map (λ change. change.run) ys)) lbn None ≡ option_map (λ last. last.1) (latest lbn xs)
sorted_decide lbn xs ys stable up = last_decides lbn ys up ∙ ap (option_map (λ last. last.1)) (stable_latest lbn xs ys stable)

abbrev pub Ends : ℕ → Change → Type 0
Ends end change = change.run.first + change.run.count ≤ end

ends_event : (end instant : ℕ) (runs : List ContentRun) → AllByRecursion (λ run. run.first + run.count ≤ end) runs
    → AllByRecursion (Ends end) (map (λ run. record { instant = instant; run = run }) runs)
ends_event end instant runs all = all_map (Ends end) (λ run. record { instant = instant; run = run }) runs all

ends_changes : (end : ℕ) (events : List Event) → AllByRecursion (IsWithin end) events → AllByRecursion (Ends end) (changes_of events)
ends_changes end [] all = tt
ends_changes end (event ∷ events) all = all_append (Ends end) (changes_in event) (changes_of events)
    (ends_event end event.instant event.contents all.0) (ends_changes end events all.1)

-- the runs of sorted changes end where those of the events do
pub sorted_ends : (end : ℕ) (events : List Event) (ys : List Change) → IsPermutation (changes_of events) ys
    → AllByRecursion (IsWithin end) events → AllByRecursion (Ends end) ys
sorted_ends end events ys moved all =
    let each = All-from_recursion (Ends end) (changes_of events) (ends_changes end events all) in
    recursion_from_All (Ends end) ys (All-permutation (Ends end) (changes_of events) ys moved each)

pub sorted_within : (end : ℕ) (events : List Event) (ys : List Change) → IsPermutation (changes_of events) ys
    → AllByRecursion (IsWithin end) events
    → AllByRecursion (λ run. run.first + run.count ≤ end) (map (λ change. change.run) ys)
sorted_within end events ys moved all = all_map _ (λ (change : Change). change.run) ys (sorted_ends end events ys moved all)
