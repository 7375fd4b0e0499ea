-- The instants of arrivals and calls, and the idle dwells from one to the next.
use Rattle.fb_decide.proofs.Words.{◌≡◌, ◌⊎◌, ℕ, ◌<◌, ◌≤◌, max, List, [], ◌∷◌, true, false, refl, ap, ◌∙◌, arith, inl, inr, subst, nat_lt}
use Rattle.fb_decide.proofs.Words.{AllByRecursion, fold, nat_tests, Track, IsRising, idles, idle_until, IsAmong, was_all_among}
use Rattle.fb_model.specs.Decisions.{among}
use Rattle.fb_model.proofs.Instants.{all_among, fold_max, most_among}

-- ---- an instant comes among others

itself_among : (xs : List ℕ) (t : ℕ) → IsAmong t (among xs t)
itself_among [] t = inl refl
itself_among (x ∷ xs) t = grind (arith, itself_among xs t)

-- ---- and so do many

pub all_of_both : (P : ℕ → Type 0) (ts xs : List ℕ) → AllByRecursion P xs → AllByRecursion P ts → AllByRecursion P (fold among xs ts)
all_of_both P [] xs all more = all
all_of_both P (t ∷ ts) xs all more = all_of_both P ts (among xs t) (all_among P xs t all more.0) more.1

pub one_of_second : (u : ℕ) (ts xs : List ℕ) → IsAmong u ts → IsAmong u (fold among xs ts)
one_of_second u [] xs there = absurd there
one_of_second u (t ∷ ts) xs there = elim there [
  | inl here ↦ was_all_among u ts (among xs t) (subst (λ v. IsAmong v (among xs t)) here (itself_among xs t))
  | inr rest ↦ one_of_second u ts (among xs t) rest
]

-- ---- idle dwells

-- none begins at an instant that has passed
pub idle_none : (head : Track) (now : ℕ) (xs : List ℕ) → AllByRecursion (λ x. x ≤ now) xs → idle_until head now xs ≡ []
idle_none head now [] all = refl
idle_none head now (x ∷ xs) all =
    let passed : nat_lt now x ≡ false = let h = all.0 in grind (arith, nat_tests) in
    rw passed (idle_none head now xs all.1)

pub at_among : (P : ℕ → Type 0) (t : ℕ) (xs : List ℕ) → AllByRecursion P xs → IsAmong t xs → P t
at_among P t [] all there = absurd there
at_among P t (x ∷ xs) all there = elim there [
  | inl here ↦ subst P here all.0
  | inr rest ↦ at_among P t xs all.1 rest
]

-- nothing lies between two instants
abbrev pub LieApart : ℕ → ℕ → List ℕ → Type 0
LieApart now t xs = AllByRecursion (λ x. (x ≤ now) ⊎ (t ≤ x)) xs

-- the first one leads to the least instant to come
pub idle_next : (head : Track) (now t : ℕ) (xs : List ℕ) → now < t → IsRising xs → IsAmong t xs → LieApart now t xs
    → idle_until head now xs ≡ idles (record { track = head; begin = now; end = t }) ∷ idle_until head t xs
idle_next head now t [] less rising there apart = absurd there
idle_next head now t (x ∷ xs) less rising there apart = elim apart.0 [
  | inl before ↦
      let skips : nat_lt now x ≡ false = grind (arith, nat_tests) in
      let skips_too : nat_lt t x ≡ false = grind (arith, nat_tests) in
      rw (skips, skips_too) (idle_next head now t xs less rising.1
      (elim there [ inl here ↦ absurd (omega (arith, here, before, less)) | inr rest ↦ rest ]) apart.1)
  | inr after ↦
      let least : x ≤ t = elim there [
        | inl here ↦ (let same : x ≤ t = omega (arith, here) in same)
        | inr rest ↦ at_among (λ y. x ≤ y) t xs rising.0 rest
      ] in
      let same : x ≡ t = omega (arith, least, after) in
      let begins : nat_lt now x ≡ true = grind (arith, nat_tests) in
      let ends : nat_lt t x ≡ false = grind (arith, nat_tests) in
      rw (begins, ends) (ap (λ y. idles (record { track = head; begin = now; end = y }) ∷ idle_until head y xs) same)
]

-- ---- the last instant

-- it comes after each of them
pub last_after : (now t : ℕ) (xs : List ℕ) → now ≤ t → IsAmong t xs → fold max now xs ≡ fold max t xs
last_after now t xs before there = omega (arith, before, fold_max now xs, fold_max t xs, most_among t xs there)

pub last_passed : (now : ℕ) (xs : List ℕ) → AllByRecursion (λ x. x ≤ now) xs → fold max now xs ≡ now
last_passed now [] all = refl
last_passed now (x ∷ xs) all = let same : max now x ≡ now = omega (arith, all.0) in ap (λ a. fold max a xs) same ∙ last_passed now xs all.1
