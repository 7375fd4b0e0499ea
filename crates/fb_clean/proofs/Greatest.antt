-- The first segment with the greatest ratio of benefit to cost is the one to choose.
use Rattle.std.proofs.Common.{◌≡◌, ◌≢◌, ℕ, zero, suc, ◌+◌, ◌-◌, ◌*◌, ◌<◌, ◌≤◌, List, [], ◌∷◌, Option, Some, None, true, false, refl, arith}
use Rattle.std.proofs.Common.{ap, sym, ◌∙◌, subst, cond, length, ◌⊎◌, inl, inr}
use Rattle.std.proofs.lemmas.Bool.{cases_Bool}
use Rattle.std.specs.List.{AllByRecursion, Contains, best_of}
use Rattle.std.proofs.Math.Nat.{le_of_mul-le-mul_right, lt_of_mul-lt-mul_right, mul-lt-mul_of_pos_right, mul-le-mul_right}
use Rattle.std.proofs.lemmas.Bool.Decides.{nat_tests}
use Rattle.std.proofs.lemmas.List.Elements.{Contains-append_left, Contains-append_right, Contains-append_cases}
use Rattle.fb_clean.specs.Segments.{LogSegment, Cleaning, gain, cost, is_better, first_best, waiting, number_of, choice_while, choice_of}
use Rattle.fb_clean.specs.Numbers.{AreNumbered}
use Rattle.fb_clean.specs.Greatest.{IsGreatest, IsChoice}

-- ---- fractions, by cross products

module _ (ga ca gx cx gb cb : ℕ) (some : 0 < cx) where
  le_le : ga * cx ≤ gx * ca → gx * cb ≤ gb * cx → ga * cb ≤ gb * ca
  le_le p q =
      let one : ga * cx * cb ≤ gx * ca * cb = mul-le-mul_right cb p in
      let two : gx * cb * ca ≤ gb * cx * ca = mul-le-mul_right ca q in
      le_of_mul-le-mul_right {k = cx} (omega (arith, one, two)) some

  lt_le : 0 < cb → ga * cx < gx * ca → gx * cb ≤ gb * cx → ga * cb < gb * ca
  lt_le h p q =
      let one : ga * cx * cb < gx * ca * cb = mul-lt-mul_of_pos_right p h in
      let two : gx * cb * ca ≤ gb * cx * ca = mul-le-mul_right ca q in
      lt_of_mul-lt-mul_right cx (omega (arith, one, two))

  le_lt : 0 < ca → ga * cx ≤ gx * ca → gx * cb < gb * cx → ga * cb < gb * ca
  le_lt h p q =
      let one : ga * cx * cb ≤ gx * ca * cb = mul-le-mul_right cb p in
      let two : gx * cb * ca < gb * cx * ca = mul-lt-mul_of_pos_right q h in
      lt_of_mul-lt-mul_right cx (omega (arith, one, two))

-- ---- ratios of benefit to cost

-- the first segment has a smaller ratio
abbrev pub Less : LogSegment → LogSegment → Type 0
Less a b = gain a * cost b < gain b * cost a

abbrev pub AtMost : LogSegment → LogSegment → Type 0
AtMost a b = gain a * cost b ≤ gain b * cost a

abbrev pub best : LogSegment → List LogSegment → LogSegment
best a xs = best_of is_better a xs

some_left : (m n : ℕ) → 0 < m * n → 0 < m
some_left zero n h = absurd (omega arith)
some_left (suc m) n h = omega arith

some_right : (m n : ℕ) → 0 < m * n → 0 < n
some_right m zero h = absurd (omega arith)
some_right m (suc n) h = omega arith

-- what gains has a cost
pub gain-cost : (s : LogSegment) → 0 < gain s → 0 < cost s
gain-cost s h = let free = some_left (s.blocks - length s.live) s.age h in omega arith

-- where one ratio is greater than another, both segments have a cost
pub less-costs : (a b : LogSegment) → Less a b → (0 < cost a) × (0 < cost b)
less-costs a b less =
    let some : 0 < gain b * cost a = omega arith in
    (some_right (gain b) (cost a) some, gain-cost b (some_left (gain b) (cost a) some))

less-chain : (a x b : LogSegment) → Less a x → Less x b → Less a b
less-chain a x b p q = let costs = less-costs x b q in
    lt_le (gain a) (cost a) (gain x) (cost x) (gain b) (cost b) costs.0 costs.1 p (omega arith)

pub better : (x a : LogSegment) → is_better x a ≡ true → Less a x
better x a h = grind (arith, nat_tests)

pub no_better : (x a : LogSegment) → is_better x a ≡ false → AtMost x a
no_better x a h = grind (arith, nat_tests)

pub best_taken : (a x : LogSegment) (xs : List LogSegment) → is_better x a ≡ true → best a (x ∷ xs) ≡ best x xs
best_taken a x xs wins = ap (λ b. best (cond b x a) xs) wins

pub best_kept : (a x : LogSegment) (xs : List LogSegment) → is_better x a ≡ false → best a (x ∷ xs) ≡ best a xs
best_kept a x xs loses = ap (λ b. best (cond b x a) xs) loses

-- the best of all is the first one or has a greater ratio
abbrev Won : LogSegment → LogSegment → Type 0
Won a b = (b ≡ a) ⊎ Less a b

won-chain : (a x b : LogSegment) → Less a x → Won x b → Won a b
won-chain a x b p (inl same) = inr (subst (Less a) (sym same) p)
won-chain a x b p (inr less) = inr (less-chain a x b p less)

won : (a : LogSegment) (xs : List LogSegment) → Won a (best a xs)
won a [] = inl refl
won a (x ∷ xs) = elim (cases_Bool (is_better x a)) [
  | inl wins ↦ subst (Won a) (sym (best_taken a x xs wins)) (won-chain a x (best x xs) (better x a wins) (won x xs))
  | inr loses ↦ subst (Won a) (sym (best_kept a x xs loses)) (won a xs)
]

at_most : (a b : LogSegment) → Won a b → AtMost a b
at_most a b (inl same) =
    let e : gain a * cost b ≡ gain b * cost a = ap (λ s. gain a * cost s) same ∙ sym (ap (λ s. gain s * cost a) same) in omega arith
at_most a b (inr less) = omega arith

at_most-chain : (x a b : LogSegment) → AtMost x a → Won a b → AtMost x b
at_most-chain x a b p (inl same) = subst (AtMost x) (sym same) p
at_most-chain x a b p (inr less) = let costs = less-costs a b less in
    le_le (gain x) (cost x) (gain a) (cost a) (gain b) (cost b) costs.0 p (omega arith)

abbrev AreAtMost : List LogSegment → LogSegment → Type 0
AreAtMost others b = AllByRecursion (λ other. AtMost other b) others

others_at_most : (a : LogSegment) (xs : List LogSegment) → AreAtMost xs (best a xs)
others_at_most a [] = tt
others_at_most a (x ∷ xs) = elim (cases_Bool (is_better x a)) [
  | inl wins ↦ subst (AreAtMost (x ∷ xs)) (sym (best_taken a x xs wins)) (at_most x (best x xs) (won x xs), others_at_most x xs)
  | inr loses ↦ subst (AreAtMost (x ∷ xs)) (sym (best_kept a x xs loses)) (
    at_most-chain x a (best a xs) (no_better x a loses) (won a xs),
    others_at_most a xs,
  )
]

-- ---- the smaller number

-- numbers don't fall, from n on
abbrev Ascend : ℕ → List LogSegment → Type 0
Ascend n [] = Unit {0}
Ascend n (s ∷ segments) = (n ≤ s.number) × Ascend s.number segments

ascend-from : (m n : ℕ) (segments : List LogSegment) → m ≤ n → Ascend n segments → Ascend m segments
ascend-from m n [] le ascend = tt
ascend-from m n (s ∷ segments) le ascend = let own = ascend.0 in (omega arith, ascend.1)

ascend-waiting : (m n : ℕ) (segments : List LogSegment) → m ≤ n → AreNumbered n segments → Ascend m (waiting segments)
ascend-waiting m n [] le numbered = tt
ascend-waiting m n (s ∷ segments) le numbered =
    let own = numbered.0 in
    elim (cases_Bool s.waits) [
      | inl left ↦ rw left (omega arith, ascend-waiting s.number (n + 1) segments (omega arith) numbered.1)
      | inr gone ↦ rw gone (ascend-waiting m (n + 1) segments (omega arith) numbered.1)
    ]

-- among segments with the same ratio this one has the smallest number
abbrev IsBefore : LogSegment → LogSegment → Type 0
IsBefore b other = 0 < cost other → gain other * cost b ≡ gain b * cost other → b.number ≤ other.number

own_before : (a b : LogSegment) → Won a b → IsBefore b a
own_before a b (inl same) some tie = let e = ap (λ s. s.number) same in omega arith
own_before a b (inr less) some tie = absurd (omega arith)

other_before : (x a b : LogSegment) → a.number ≤ x.number → AtMost x a → Won a b → IsBefore b x
other_before x a b le p (inl same) some tie = let e = ap (λ s. s.number) same in omega arith
other_before x a b le p (inr less) some tie =
    let costs = less-costs a b less in
    let lesser = le_lt (gain x) (cost x) (gain a) (cost a) (gain b) (cost b) costs.0 some p less in
    absurd (omega arith)

abbrev AreBefore : List LogSegment → LogSegment → Type 0
AreBefore others b = AllByRecursion (IsBefore b) others

others_before : (a : LogSegment) (xs : List LogSegment) → Ascend a.number xs → AreBefore xs (best a xs)
others_before a [] ascend = tt
others_before a (x ∷ xs) ascend = elim (cases_Bool (is_better x a)) [
  | inl wins ↦ subst (AreBefore (x ∷ xs)) (sym (best_taken a x xs wins)) (own_before x (best x xs) (won x xs), others_before x xs ascend.1)
  | inr loses ↦ subst (AreBefore (x ∷ xs)) (sym (best_kept a x xs loses)) (
    other_before x a (best a xs) ascend.0 (no_better x a loses) (won a xs),
    others_before a xs (ascend-from a.number x.number xs ascend.0 ascend.1),
  )
]

-- ---- the choice

best_in : (a : LogSegment) (xs : List LogSegment) → Contains (a ∷ xs) (best a xs)
best_in a [] = (0, omega arith, refl)
best_in a (x ∷ xs) = elim (cases_Bool (is_better x a)) [
  | inl wins ↦
      subst (Contains (a ∷ x ∷ xs)) (sym (best_taken a x xs wins)) (Contains-append_right (a ∷ []) (x ∷ xs) (best x xs) (best_in x xs))
  | inr loses ↦
      subst (Contains (a ∷ x ∷ xs)) (sym (best_kept a x xs loses)) (elim (Contains-append_cases (a ∷ []) xs (best a xs) (best_in a xs)) [
        | inl here ↦ Contains-append_left (a ∷ []) (x ∷ xs) (best a xs) here
        | inr there ↦ Contains-append_right (a ∷ x ∷ []) xs (best a xs) there
      ])
]

best_is_greatest : (a : LogSegment) (xs : List LogSegment) → Ascend a.number xs → IsGreatest (a ∷ xs) (best a xs).number
best_is_greatest a xs ascend = record {
  segment = best a xs;
  numbered = refl;
  is_left = best_in a xs;
  greatest = (at_most a (best a xs) (won a xs), others_at_most a xs);
  first = (own_before a (best a xs) (won a xs), others_before a xs ascend);
}

-- none or the greatest of those left
abbrev IsChoiceOf : List LogSegment → Option ℕ → Type 0
IsChoiceOf left None = left ≡ []
IsChoiceOf left (Some number) = IsGreatest left number

first_is_greatest : (left : List LogSegment) → Ascend 0 left → IsChoiceOf left (number_of (first_best left))
first_is_greatest [] ascend = refl
first_is_greatest (s ∷ segments) ascend = best_is_greatest s segments ascend.1

some_none : (n : ℕ) → Some n ≢ None
some_none n e = grind arith

by_left : (cleaning : Cleaning) (choice : Option ℕ) → cleaning.unfinished ≡ None → IsChoiceOf (waiting cleaning.segments) choice
    → IsChoice cleaning choice
by_left cleaning None none is = inr is
by_left cleaning (Some number) none is = (none, is)

by_unfinished : (cleaning : Cleaning) (unfinished : Option ℕ) → cleaning.unfinished ≡ unfinished → AreNumbered 1 cleaning.segments
    → IsChoice cleaning (choice_while unfinished cleaning.segments)
by_unfinished cleaning None e numbered = by_left cleaning (number_of (first_best (waiting cleaning.segments))) e
    (first_is_greatest (waiting cleaning.segments) (ascend-waiting 0 1 cleaning.segments (omega arith) numbered))
by_unfinished cleaning (Some n) e numbered = inl (λ none. some_none n (sym e ∙ none))

pub choice_is_greatest : (cleaning : Cleaning) (choice : Option ℕ) → AreNumbered 1 cleaning.segments → choice ≡ choice_of cleaning
    → IsChoice cleaning choice
choice_is_greatest cleaning choice numbered e = subst (IsChoice cleaning) (sym e) (by_unfinished cleaning cleaning.unfinished refl numbered)
