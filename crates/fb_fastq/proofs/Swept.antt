-- Lists that rise by a number, and what a walk from one of their ends has seen.
pub use Rattle.std.proofs.lemmas.Option.{same_Some as some_injective}
use Rattle.fb_fastq.proofs.Words.{◌≡◌, ℕ, ◌≤◌, List, [], ◌∷◌, ◌++◌, map, filter, refl, sym, subst, arith, Bool, inl, inr, ◌⊎◌, Some}
use Rattle.fb_fastq.proofs.Words.{none-some, slice_get, AllByRecursion, IsStrictlySortedBy, Ordering, Less, cases_Bool, all_filter}
use Rattle.fb_fastq.proofs.Words.{all_get, all_left, all_push, all_right, all_weaker, append_at, ◌<◌, length, length-append, Side, Above}
use Rattle.fb_fastq.proofs.Words.{Below, on_side, IsNoFarther, AreThose, Among, among-append, among-filtered, among-right, among-tail}
use Rattle.fb_fastq.proofs.Words.{filter_to, all_unmapped}

-- outwards the next one of a list is the first above, and the last below
abbrev pub Takes : {A : Type 0} → Side → List A → A → List A → Type 0
Takes side left x rest = on_side side (left ≡ x ∷ rest) (left ≡ rest ++ x ∷ [])

pub none_left : {A : Type 0} (side : Side) (left rest : List A)
    → on_side side ((left ≡ []) × (rest ≡ [])) ((left ≡ []) × (rest ≡ [])) → left ≡ []
none_left Above left rest is = is.0
none_left Below left rest is = is.0

module _ {A : Type 0} (at : A → ℕ) where
  -- none is less than one before it
  abbrev pub Rises : List A → Type 0
  Rises [] = Unit {0}
  Rises (x ∷ xs) = AllByRecursion (λ y. at x ≤ at y) xs × Rises xs

  pub rises_sorted : {K : Type 0} (order : K → K → Ordering) (key : A → K) → ((x y : A) → order (key x) (key y) ≡ Less → at x ≤ at y)
      → (xs : List A) → IsStrictlySortedBy order (map key xs) → Rises xs
  unfolding IsStrictlySortedBy
  rises_sorted order key follows [] h = tt
  rises_sorted order key follows (x ∷ xs) h =
      let above = all_unmapped (λ k. order (key x) k ≡ Less) key xs h.0 in
      let least = all_weaker (λ y. order (key x) (key y) ≡ Less) (λ y. at x ≤ at y) (follows x) xs above in
      (least, rises_sorted order key follows xs h.1)

  rises_filter : (test : A → Bool) (xs : List A) → Rises xs → Rises (filter test xs)
  rises_filter test [] h = tt
  rises_filter test (x ∷ xs) h = elim (cases_Bool (test x)) [
    | inl kept ↦ rw kept (all_filter (λ y. at x ≤ at y) test xs h.0, rises_filter test xs h.1)
    | inr dropped ↦ rw dropped (rises_filter test xs h.1)
  ]

  front_rises : (x : A) (xs : List A) → Rises (xs ++ x ∷ []) → Rises xs × AllByRecursion (λ y. at y ≤ at x) xs
  front_rises x [] h = (tt, tt)
  front_rises x (y ∷ xs) h =
      let rest = front_rises x xs h.1 in
      let last = (all_right (λ z. at y ≤ at z) xs (x ∷ []) h.0).0 in
      ((all_left (λ z. at y ≤ at z) xs (x ∷ []) h.0, rest.0), (last, rest.1))

  -- an element is the next of those that are left, and these are the others
  pub record IsNext (x : A) (left rest : List A) : Type 0 where
    pub there : Among left x
    pub within : (y : A) → Among rest y → Among left y
    pub one : (y : A) → Among left y → Among rest y ⊎ Among (x ∷ []) y
    pub rises : Rises left → Rises rest
    pub fewer : length rest < length left

  pub next_out : (side : Side) (x : A) (left rest : List A) → Takes side left x rest → IsNext x left rest
  next_out Above x left rest is = subst (λ (l : List A). IsNext x l rest) (sym is) (record {
    there = (0, refl);
    within = λ y. among-tail x y rest;
    one = λ y e. elim (among-append (x ∷ []) rest y e) [ inl here ↦ inr here | inr later ↦ inl later ];
    rises = λ h. h.1;
    fewer = omega arith;
  })
  next_out Below x left rest is = subst (λ (l : List A). IsNext x l rest) (sym is) (record {
    there = among-right rest (x ∷ []) x (0, refl);
    within = λ y e. (e.0, append_at rest (x ∷ []) e.0 y e.1);
    one = among-append rest (x ∷ []);
    rises = λ h. (front_rises x rest h).0;
    fewer = omega (arith, length-append rest (x ∷ []));
  })

  -- the others are no nearer
  pub next_nearest : (side : Side) (x : A) (left rest : List A) → Takes side left x rest → Rises left → (y : A) → Among left y
      → IsNoFarther side (at x) (at y)
  next_nearest Above x left rest is rises y e = let there = subst (λ l. Among l y) is e in
      all_get (λ z. at x ≤ at z) (x ∷ rest) there.0 y (omega arith, (subst Rises is rises).0) there.1
  next_nearest Below x left rest is rises y e = let there = subst (λ l. Among l y) is e in
      let nearer = all_push (λ z. at z ≤ at x) rest x (front_rises x rest (subst Rises is rises)).1 (omega arith) in
      all_get (λ z. at z ≤ at x) (rest ++ x ∷ []) there.0 y nearer there.1

  -- of those inside all but the ones that are left are done with
  pub record IsSwept (Inside Done : A → Type 0) (left : List A) : Type 0 where
    pub rise : Rises left
    pub inside : (y : A) → Among left y → Inside y
    pub seen : (y : A) → Inside y → Done y ⊎ Among left y

  -- at first those are left that are so; the others need nothing
  pub swept_begins : {IsSo Inside Done : A → Type 0} (all left : List A) → Rises all → AreThose IsSo all left
      → ((y : A) → Among all y → IsSo y → Inside y) → ((y : A) → Inside y → Done y ⊎ (Among all y × IsSo y))
      → IsSwept Inside Done left
  swept_begins {IsSo} {Inside} {Done} all left rises those sound whole = subst (IsSwept Inside Done) (sym those.is) (record {
    rise = rises_filter those.test all rises;
    inside = λ y e. let from = among-filtered those.test all y e in sound y from.0 (those.sound y from.1);
    seen = λ y inside. elim (whole y inside) [
      | inl done ↦ inl done
      | inr there ↦ inr (filter_to those.test all there.0.0 y there.0.1 (those.whole y there.1))
    ];
  })

  module _ {Inside Old : A → Type 0} {left : List A} (swept : IsSwept Inside Old left) where
    -- the next one is done with
    pub swept_on : {New : A → Type 0} (x : A) (rest : List A) → IsNext x left rest → ((y : A) → Old y → New y) → New x
        → IsSwept Inside New rest
    swept_on {New} x rest next kept new = record {
      rise = next.rises swept.rise;
      inside = λ y e. swept.inside y (next.within y e);
      seen = λ y inside. elim (swept.seen y inside) [
        | inl done ↦ inl (kept y done)
        | inr waits ↦ elim (next.one y waits) [
          | inl later ↦ inr later
          | inr here ↦ inl (all_get New (x ∷ []) here.0 y (new, tt) here.1)
        ]
      ];
    }

    -- those that are left are done with, or there are none
    pub swept_stops : ((y : A) → Among left y → Old y) → (y : A) → Inside y → Old y
    swept_stops far y inside = elim (swept.seen y inside) [ inl done ↦ done | inr waits ↦ far y waits ]

    pub swept_ends : left ≡ [] → (y : A) → Inside y → Old y
    swept_ends none = swept_stops (λ y e. absurd (none-some y (subst (λ l. slice_get l e.0 ≡ Some y) none e.1)))
