-- How many elements of a list pass a test.
use Rattle.std.proofs.Common.{Bool, List, [], ap, arith, cond, false, inl, inr, length, map, not, refl, suc, sym, true, zero, ℕ, ◌+◌, ◌<◌}
use Rattle.std.proofs.Common.{◌∙◌, ◌∷◌, ◌≡◌, ◌≤◌}
use Rattle.std.specs.List.{list_any, range_with_len, sum_by}
use Rattle.std.specs.List.Sorted.{IsPermutation}
use Rattle.std.specs.Prelude.{filter, nat_lt, ◌||◌}
use Rattle.std.proofs.lemmas.Bool.{cases_Bool}
use Rattle.std.proofs.lemmas.Bool.Decides.{nat_tests}
use Rattle.std.proofs.lemmas.List.Filters.{length-filter_both}
use Rattle.std.proofs.lemmas.List.Sorted.{sum_by-IsPermutation}
use Rattle.std.proofs.lemmas.List.Sums.{count_by-le-length, length-filter, sum_by-cons}
use Rattle.fb_units.proofs.Comparing.{add_one, add_zero}
use Rattle.fb_units.proofs.Filtered.{kept_map}
use Rattle.std.proofs.lemmas.List.{length-map}

-- one element more adds one where it passes
pub count_cons : {A : Type 0} (test : A → Bool) (x : A) (xs : List A) → length (filter test (x ∷ xs))
    ≡ cond (test x) 1 0 + length (filter test xs)
count_cons test x xs = elim (cases_Bool (test x)) [ inl in_ ↦ rw in_ (omega arith) | inr out ↦ rw out (omega arith) ]

-- the elements that pass a test and those that don't are all together
pub kept_and_dropped : {A : Type 0} (bad : A → Bool) (xs : List A)
    → length (filter bad xs) + length (filter (λ x. not (bad x)) xs) ≡ length xs
kept_and_dropped bad xs = length-filter_both bad (λ x. not (bad x)) (λ x. refl) xs

-- no more pass one test or another than pass the first and pass the second
either : {A : Type 0} (p q : A → Bool) (xs : List A) → length (filter (λ x. p x || q x) xs) ≤ length (filter p xs) + length (filter q xs)
either p q [] = omega arith
either p q (x ∷ xs) =
    grind (arith, nat_tests, count_cons (λ x. p x || q x) x xs, count_cons p x xs, count_cons q x xs, either p q xs)

-- no element passes a test that always fails
nothing : {A : Type 0} (xs : List A) → length (filter (λ _. false) xs) ≡ 0
nothing [] = refl
nothing (x ∷ xs) = nothing xs

-- no more pass one of these tests than there are tests that can be passed
pub at_most_each : {A B : Type 0} (same : A → B → Bool) (can : B → Bool) (xs : List A) (ds : List B)
    → ((d : B) → length (filter (λ x. same x d) xs) ≤ cond (can d) 1 0)
    → length (filter (λ x. list_any (same x) ds) xs) ≤ length (filter can ds)
at_most_each same can xs [] each = omega (arith, nothing xs)
at_most_each same can xs (d ∷ ds) each =
    omega (arith, each d, count_cons can d ds, either (λ x. same x d) (λ x. list_any (same x) ds) xs, at_most_each same can xs ds each)

-- no more pass than there are
pub filter-le : {A : Type 0} (test : A → Bool) (xs : List A) → length (filter test xs) ≤ length xs
filter-le test xs = rw length-filter (count_by-le-length test xs)

-- no more pass two tests than the first of them
pub fewer : {A : Type 0} (p q : A → Bool) (xs : List A) → length (filter p (filter q xs)) ≤ length (filter p xs)
fewer p q [] = omega arith
fewer p q (x ∷ xs) = grind (arith, count_cons p x (filter q xs), count_cons p x xs, fewer p q xs)

-- in a range, a test that only one number can pass is passed at most once, and by none where it can't be passed
pub once_in : (test : ℕ → Bool) (can : Bool) (q a n : ℕ) → ((i : ℕ) → i < n → test (a + i) ≡ true → (can ≡ true) × (a + i ≡ q))
    → length (filter test (range_with_len a n)) ≤ cond can 1 0
once_in test can q a zero h = omega arith
once_in test can q a (suc n) h =
    let later = λ (i : ℕ) (l : i < n) (t : test (a + 1 + i) ≡ true). h (i + 1) (omega arith) (ap test (add_one a i) ∙ t) in
    elim (cases_Bool (test a)) [
      | inl here ↦
          let first = h 0 (omega arith) (ap test (add_zero a) ∙ here) in
          rw (here, first.0) (omega (arith, once_in test false q (a + 1) n (λ i l t. absurd (omega (arith, first.1, (later i l t).1)))))
      | inr off ↦ rw off (once_in test can q (a + 1) n (λ i l t. ((later i l t).0, omega (arith, (later i l t).1))))
    ]

-- a test of mapped elements
pub length-filter-map : {X Y : Type 0} (p : Y → Bool) (f : X → Y) (xs : List X) → length (filter p (map f xs))
    ≡ length (filter (λ x. p (f x)) xs)
length-filter-map p f xs = ap length (kept_map p f xs) ∙ length-map (filter (λ x. p (f x)) xs) f

-- some element passes where the count is not 0
pub any_count : {A : Type 0} (test : A → Bool) (xs : List A) → list_any test xs ≡ nat_lt 0 (length (filter test xs))
any_count test [] = refl
any_count test (x ∷ xs) = grind (arith, nat_tests, any_count test xs)

-- the order of the elements changes no count
pub same_count : {A : Type 0} (test : A → Bool) (xs ys : List A) → IsPermutation xs ys → length (filter test ys) ≡ length (filter test xs)
same_count test xs ys h = length-filter test ys ∙ (sum_by-IsPermutation (λ x. cond (test x) 1 0) xs ys h ∙ sym (length-filter test xs))

-- where a test passes just where one of two does, which never both pass, its count is the sum of theirs
pub sum_of : {A : Type 0} (p q r : A → Bool) (xs : List A) → ((x : A) → cond {A = ℕ} (p x) 1 0 ≡ cond (q x) 1 0 + cond (r x) 1 0)
    → length (filter p xs) ≡ length (filter q xs) + length (filter r xs)
sum_of p q r [] all = refl
sum_of p q r (x ∷ xs) all = omega (arith, count_cons p x xs, count_cons q x xs, count_cons r x xs, all x, sum_of p q r xs all)

-- one for each element
pub each_one : {A : Type 0} (xs : List A) → sum_by (λ _. 1) xs ≡ length xs
each_one [] = refl
each_one (x ∷ xs) = omega (arith, sum_by-cons (λ _. 1) x xs, each_one xs)
